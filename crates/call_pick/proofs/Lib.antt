-- The laws of a pick.
pub mod PickRunLaws
