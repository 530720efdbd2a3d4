-- What the contracts of an integration cite.
pub mod Integrates
