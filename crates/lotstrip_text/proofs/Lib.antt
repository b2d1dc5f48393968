mod Numbered
mod Pieces
mod Digits
mod Lines
mod Words
mod Booking
mod Printing
