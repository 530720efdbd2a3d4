-- What the contracts of a pick cite.
pub mod Picking
