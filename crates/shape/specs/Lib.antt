pub mod Columns
pub mod Chains
pub mod Shape
pub mod Checked
pub mod Index
pub mod Steps
pub mod Rules
pub mod Lent
pub mod Kept
pub mod Fields
pub mod Writes
mod Examples
pub mod Laws
pub mod Stores
