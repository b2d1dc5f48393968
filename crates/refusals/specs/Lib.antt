pub mod Step
pub mod Refuted
pub mod Laws
