-- What a tick is proved against, beside the definitions of lta_spec.
pub mod Lag
