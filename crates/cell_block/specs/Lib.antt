-- What the contracts on a cell's block counter cite.
pub mod Counting
