-- The records of some bytes, and why a script may be read in blocks.
pub mod Bytes
pub mod Blocks
