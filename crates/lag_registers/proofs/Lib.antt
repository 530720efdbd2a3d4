-- Laws of a register that moves, and of decoded entries.
pub mod Loops
pub mod Decoding
