mod Appending
mod Emptying
mod Columns
mod Clearing
mod Starting
mod Summing
