mod Lines
mod NoKind
mod Places
mod Taken
mod Putting
