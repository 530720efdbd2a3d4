-- The laws of a cell's tests.
pub mod PartLaws
