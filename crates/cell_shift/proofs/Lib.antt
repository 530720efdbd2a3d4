-- The laws of a cell's registers.
pub mod ShiftLaws
