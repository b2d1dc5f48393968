mod Bases
mod Dropping
mod Settling
mod Compacted
mod Again
mod Entry
pub mod Telling
