pub mod Ringing
pub mod Climbing
pub mod Paired
