-- The tie of the biased numbers to document 01's integers, by tests that antt computes.
pub mod Below
pub mod SignalLaws
