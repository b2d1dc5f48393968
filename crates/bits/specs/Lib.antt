pub mod Put
pub mod Fields
pub mod Wrote
pub mod Penned
pub mod Laws
