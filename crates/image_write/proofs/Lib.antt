pub mod Numbering
mod Strung
mod Writing
mod Surviving
mod WriteCases
