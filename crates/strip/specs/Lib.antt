pub mod Fresh
pub mod Strip
pub mod Laws
pub mod Agreeing
