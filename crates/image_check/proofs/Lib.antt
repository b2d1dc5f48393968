pub mod Ordering
pub mod Checking
pub mod Passing
