-- The laws that the theorem rests on, apart from what it says.
pub mod Calling
pub mod Following
pub mod Closing
