-- The laws of the check, for the crates above to cite.
pub mod Judging
