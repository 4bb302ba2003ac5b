-- What is found.
mod Alike
mod Counted
pub mod Found
pub mod Shaped
pub mod Ticked
