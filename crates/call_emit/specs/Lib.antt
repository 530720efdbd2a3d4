-- What the contracts of the functions under an emission cite.
pub mod Emission
