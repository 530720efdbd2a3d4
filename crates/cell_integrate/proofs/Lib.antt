-- The laws of an integration with its Ready number.
pub mod RaiseLaws
