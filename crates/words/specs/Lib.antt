-- What the functions on words are proved against, beside the definitions of lta_spec.
pub mod Moves
