-- The laws of what joining answers and of one direction of two books, for the crates above to cite.
pub mod Answers
pub mod Written
pub mod Sides
