-- What the contracts of the functions under a tick cite.
pub mod Cells
