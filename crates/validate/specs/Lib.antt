pub mod Flat
pub mod Rules
pub mod Judging
pub mod Laws
