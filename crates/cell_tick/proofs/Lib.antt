-- The laws of a cell's tick.
pub mod TickLaws
