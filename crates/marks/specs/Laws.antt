-- The laws of mark maps and of lists followed against them, for the crates above to cite.
pub mod Fresh
pub mod Following
