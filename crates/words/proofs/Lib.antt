-- Laws of moves and of tests on parts, for the callers too.
pub mod MoveLaws
pub mod PartTests
