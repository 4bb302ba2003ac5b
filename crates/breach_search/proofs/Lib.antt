pub mod HighBits
pub mod Places
pub mod Watched
