-- What the functions on shift registers are proved against, beside the definitions of lta_spec.
pub mod Registers
