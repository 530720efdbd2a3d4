-- The records of a script: letters, sizes and fields.
pub mod Records
