-- Ticks that fit.
pub mod Worst
pub mod Paying
pub mod Descending
