pub mod Reasons
pub mod Ready
pub mod Lints
pub mod OneCircle
