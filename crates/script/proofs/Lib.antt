-- Laws of a script's records on its run, of its text, and of reading it in blocks; demand 3 of every script; the
-- example.
pub mod RunLaws
pub mod TextLaws
pub mod InputLaws
pub mod Demanded
pub mod Example
