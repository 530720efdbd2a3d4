-- Laws of words that are added to a row, of the rows that ticks add, of decoded registers, and of a tick that is
-- added.
pub mod Loops
pub mod RowLaws
pub mod Decoding
pub mod Adding
