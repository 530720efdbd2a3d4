-- What the tests of an accepted dump showed, and a cell whose block counter has moved.
pub mod Shown
pub mod Counted
