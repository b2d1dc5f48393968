-- The laws of the two ways that an operation ends, for the crate above to cite.
pub mod Stepping
