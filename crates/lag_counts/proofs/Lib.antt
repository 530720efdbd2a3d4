-- Laws of words that are added to a row.
pub mod Added
