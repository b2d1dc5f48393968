pub mod Cursor
pub mod Finding
pub mod Summing
pub mod Laws
