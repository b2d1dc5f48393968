mod Reading
mod Counting
mod Listing
mod Marks
