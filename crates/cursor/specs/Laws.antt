-- The laws of the cursor, for this crate and those above to cite.
pub mod Cursor
pub mod Reading
pub mod Finding
pub mod Stepping
pub mod Sought
