mod Making
mod Silent
mod Running
mod Ending
