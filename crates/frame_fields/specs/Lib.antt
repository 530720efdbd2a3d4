-- What the frame of a row wants.
pub mod Emits
