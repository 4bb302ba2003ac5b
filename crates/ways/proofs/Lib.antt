pub mod Following
pub mod Adding
pub mod Leading
pub mod Arriving
pub mod Finding
pub mod Choosing
