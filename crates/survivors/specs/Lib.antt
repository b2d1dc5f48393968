pub mod Slots
pub mod Lists
pub mod Working
pub mod Laws
pub mod Maps
