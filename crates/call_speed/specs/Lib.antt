-- What the contracts of a speed dump cite.
pub mod Sending
