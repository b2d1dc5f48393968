-- The laws of loops over slots that stop at the first that fails a test, for this crate and those above to cite.
pub mod Passing
pub mod Ranges
