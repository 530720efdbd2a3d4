-- The laws of a Ready number.
pub mod NumberLaws
