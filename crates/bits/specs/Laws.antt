-- The laws of bits, for the crates above to cite.
pub mod Put
pub mod Wrote
pub mod Penned
