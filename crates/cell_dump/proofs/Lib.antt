-- The laws of a dump.
pub mod DumpLaws
