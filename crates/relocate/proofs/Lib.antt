mod Redirecting
mod Handing
mod Moving
mod Relinking
