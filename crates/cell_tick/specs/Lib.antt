-- What the contracts of a cell's tick cite.
pub mod Ticks
