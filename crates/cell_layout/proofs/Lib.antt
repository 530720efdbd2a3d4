-- The laws of a cell's words.
pub mod Splice
pub mod Field
pub mod LaysLaws
pub mod Fields
pub mod CellLaws
pub mod ViewLaws
pub mod RowLaws
pub mod Blank
