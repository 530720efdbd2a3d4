-- The laws of the tests of a pick.
pub mod ReadyTestLaws
