pub mod Survivors
pub mod Bases
pub mod Dropping
pub mod Settling
pub mod Calls
pub mod Laws
mod Examples
pub mod Agreeing
pub mod Refuted
