pub mod Flags
pub mod Calls
pub mod Ranks
pub mod LiveSlots
pub mod Faults
pub mod Examples
pub mod Laws
