-- The laws of a pick in one cell.
pub mod PickCellLaws
