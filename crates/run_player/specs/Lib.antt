pub mod PlayedSteps
pub mod Plays
pub mod StartValues
