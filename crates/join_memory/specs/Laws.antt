-- The laws of what the third memory holds, for joining to cite.
pub mod Books
pub mod Settling
