pub mod PlainRead
mod Scalars
