mod Scanning
mod Sweeping
mod Draining
mod Starting
mod Searching
mod Unlinking
mod Preparing
