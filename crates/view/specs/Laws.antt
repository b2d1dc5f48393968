-- The laws of the reads, for the crates above to cite.
pub mod Calls
pub mod Totals
