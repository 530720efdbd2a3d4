-- Laws of what an emission stores.
pub mod Laws
