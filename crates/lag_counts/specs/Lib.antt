-- What the counts of a tick are proved against, beside the definitions of lta_spec.
pub mod Counts
