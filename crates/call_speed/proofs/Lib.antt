-- Laws of a speed dump on one cell's words.
pub mod SpeedLaws
