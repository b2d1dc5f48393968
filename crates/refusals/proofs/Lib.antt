mod Told
mod Additions
mod Relocations
