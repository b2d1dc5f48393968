pub mod Runs
pub mod Overlay
pub mod Laws
