-- The laws of runs, redirections and moves, for the crates above to cite.
pub mod Stores
