-- Laws of the stores and the reading of words.
pub mod Laws
