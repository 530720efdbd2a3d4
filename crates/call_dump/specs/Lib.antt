-- What the contract of a dump on one cell's words cites.
pub mod Dumping
