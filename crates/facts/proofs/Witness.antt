-- A machine that stands at a message, and a row that covers its row.
pub mod Rows
pub mod Steps
