-- The calls of a script.
pub mod Calls
