-- Laws of a tick.
pub mod CellsLaws
pub mod Shown
