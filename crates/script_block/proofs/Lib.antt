-- Laws of a block.
pub mod BlockLaws
