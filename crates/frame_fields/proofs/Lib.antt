-- Laws of the fields of a frame.
pub mod Laws
