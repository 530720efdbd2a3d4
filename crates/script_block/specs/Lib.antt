-- A block of bytes.
pub mod Block
