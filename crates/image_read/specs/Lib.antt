pub mod Directions
pub mod Reading
pub mod Calls
pub mod Agreeing
pub mod Refuted
