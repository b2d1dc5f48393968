pub mod Runs
pub mod Follows
pub mod Closing
pub mod Demand
pub mod Direct
pub mod Eleven
