-- Laws of what stands at the head of some bytes, of the records that they hold, and of reading in blocks.
pub mod HeadLaws
pub mod ListLaws
pub mod Blocks
