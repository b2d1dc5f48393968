pub mod Chains
pub mod Calls
mod Examples
pub mod Search
pub mod Frontier
pub mod Stores
pub mod Backwards
pub mod Forwards
pub mod Answers
pub mod Laws
