-- The laws of a cell's bins.
pub mod BinLaws
pub mod BinTests
