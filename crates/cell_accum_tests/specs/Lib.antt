-- What the contracts of the tests of an integration cite.
pub mod Ways
