pub mod Index
pub mod Rings
pub mod Walk
pub mod Reads
pub mod Axis
pub mod Clear
pub mod Laws
