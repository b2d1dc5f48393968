pub mod Appending
pub mod Lines
pub mod Input
pub mod Booking
pub mod Printing
