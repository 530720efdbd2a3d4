-- The laws of the tests of a dump and of a tick.
pub mod DumpTests
pub mod TickTests
