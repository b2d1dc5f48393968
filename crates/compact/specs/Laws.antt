-- The laws of compaction, for the crates above to cite.
pub mod Survivors
pub mod Bases
pub mod Holding
