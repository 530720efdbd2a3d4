-- The laws of the moves of an integration.
pub mod MoveLaws
