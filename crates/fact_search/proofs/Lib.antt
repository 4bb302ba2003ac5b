pub mod Shared
pub mod Rows
pub mod Leads
pub mod Steps
pub mod Ticks
pub mod Ends
