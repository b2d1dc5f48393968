pub mod Flattening
pub mod Listing
pub mod Deciding
