-- Laws of the verdict on a lag.
pub mod Laws
