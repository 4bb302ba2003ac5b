pub mod Shapes
pub mod Misfits
pub mod Starts
pub mod Unheld
