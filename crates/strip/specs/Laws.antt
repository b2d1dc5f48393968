-- The laws of making a store, for the crates above to cite.
pub mod Fresh
