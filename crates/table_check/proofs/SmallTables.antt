-- Worked tables.
pub mod KnownRows
pub mod Owed
pub mod Voltages
pub mod Enabling
pub mod Orders
