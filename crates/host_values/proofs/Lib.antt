-- Values in the front of a slice.
pub mod Stores
