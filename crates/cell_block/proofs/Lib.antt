-- The laws of a cell's block counter.
pub mod CounterLaws
