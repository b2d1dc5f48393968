-- The definitions that the laws of proofs/Laws speak of, beside those that contracts cite.
pub mod Frames
pub mod NewBase
pub mod Refining
pub mod Compactness
pub mod Checking
pub mod Slots
pub mod Judging
pub mod Agreeing
