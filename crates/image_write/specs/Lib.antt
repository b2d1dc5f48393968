pub mod Numbering
pub mod Writing
pub mod Calls
