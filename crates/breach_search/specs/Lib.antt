pub mod Harms
