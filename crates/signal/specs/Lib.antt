-- A decoded entry, what one lag adds, and a decoded register.
pub mod Signal
pub mod Decoded
