pub mod Checks
pub mod Columns
pub mod Spread
pub mod Laws
