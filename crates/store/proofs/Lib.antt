mod Acting
mod Adding
mod Axes
mod Clearing
mod Editing
mod Keeping
mod Made
mod Relocating
