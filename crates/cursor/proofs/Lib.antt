mod Going
mod Writing
mod Summing
