-- The lines that a script prints.
pub mod Lines
