pub mod Calls
pub mod Slots
pub mod Ids
pub mod Compact
pub mod Laws
