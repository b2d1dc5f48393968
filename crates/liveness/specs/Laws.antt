-- The laws of live bits, for the crates above to cite.
pub mod Flags
pub mod Calls
pub mod Next
pub mod Passed
pub mod Bits
pub mod Faults
