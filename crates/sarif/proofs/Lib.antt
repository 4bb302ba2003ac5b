pub mod Shallow
pub mod Pushed
