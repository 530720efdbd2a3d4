-- What the contracts of an integration with its Ready number cite.
pub mod Raises
