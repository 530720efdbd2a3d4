-- What the contracts of the tests of an emission cite.
pub mod Bins
