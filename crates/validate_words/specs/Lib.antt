pub mod Sizes
pub mod Rings
pub mod Climbs
pub mod Laws
