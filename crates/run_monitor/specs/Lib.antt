pub mod Known
pub mod Telling
pub mod Accepted
pub mod Monitors
