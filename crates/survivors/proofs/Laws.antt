-- The laws of maps, of words that move down and of the lists of live nodes, for this crate and those above to cite.
pub mod Slots
pub mod Turns
pub mod Lists
pub mod Working
pub mod Left
pub mod Fronts
