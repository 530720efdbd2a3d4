-- What the contracts of the functions on a Ready number cite.
pub mod Taken
