-- The laws of an integration.
pub mod IntegrateLaws
