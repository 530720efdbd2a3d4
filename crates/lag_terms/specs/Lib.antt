-- What the lag loop is proved against.
pub mod Terms
