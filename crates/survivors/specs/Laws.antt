-- The definitions that the laws of proofs/Laws speak of, beside those that contracts cite.
pub mod Turns
pub mod Left
