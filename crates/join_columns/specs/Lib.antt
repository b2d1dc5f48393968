pub mod Slots
pub mod Sides
pub mod Books
pub mod Answers
pub mod Laws
