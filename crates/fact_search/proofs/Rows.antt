-- Rows that are joined, and the row of the start.
pub mod Unions
pub mod Joined
pub mod Widened
pub mod Starts
