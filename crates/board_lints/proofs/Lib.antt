pub mod MessagesSent
pub mod Circles
pub mod Rounds
pub mod ToldLints
