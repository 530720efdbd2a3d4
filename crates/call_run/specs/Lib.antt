-- What the contracts on whole work memory cite.
pub mod Runs
