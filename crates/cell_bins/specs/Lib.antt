-- What the contracts of the functions on a cell's bins cite.
pub mod Bins
