mod SameShapes
mod Alone
mod Taken
mod Matched
mod FirstNeeds
mod Places
mod Seating
