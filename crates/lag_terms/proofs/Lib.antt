-- Laws of the terms that the lag loop writes, and what they are at each lag.
pub mod TermLaws
pub mod LagLoop
