mod Widths
mod Fields
mod Wrote
mod Putting
