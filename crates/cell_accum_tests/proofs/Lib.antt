-- The laws of the tests of an integration.
pub mod WayLaws
pub mod IntegrateTests
