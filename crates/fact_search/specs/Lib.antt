pub mod Faults
pub mod Forward
pub mod Finds
pub mod Starting
pub mod Searching
pub mod Leading
pub mod Ticking
