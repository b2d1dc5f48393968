pub mod Within
pub mod Running
pub mod Walking
pub mod Once
