-- Laws of an emission.
pub mod EmitLaws
