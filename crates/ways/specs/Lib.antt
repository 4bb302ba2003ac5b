pub mod Ways
pub mod Starts
pub mod Trails
