-- Laws of the stores of a frame's words.
pub mod FrameStores
