-- The laws of an image's sizes and of fields at equal distances, for this crate and those above to cite.
pub mod Sizes
pub mod Spread
