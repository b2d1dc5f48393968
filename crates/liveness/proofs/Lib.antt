pub mod Words
pub mod Resets
mod Ranking
mod WordFlags
mod NextWords
mod LiveSlots
