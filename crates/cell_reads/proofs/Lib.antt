-- The laws of a cell's readings.
pub mod ReadLaws
