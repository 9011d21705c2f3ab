mod Adding
mod AllLinked
mod Handling
mod Interning
mod Linking
mod Naming
mod Places
mod Reading
