-- The laws of index, rings, walks and parts of slices, for the crates above to cite.
pub mod Walk
pub mod Clear
pub mod StoreClears
pub mod StoreWalks
pub mod Rings
pub mod Parts
