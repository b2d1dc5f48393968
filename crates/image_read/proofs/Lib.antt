mod Directions
mod Counting
mod Parts
mod Reading
mod Answering
mod ReadCases
