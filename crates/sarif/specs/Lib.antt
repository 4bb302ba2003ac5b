pub mod Uris
pub mod Messages
pub mod Logs
