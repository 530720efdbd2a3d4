-- The laws of the tests on Held.
pub mod HeldTests
