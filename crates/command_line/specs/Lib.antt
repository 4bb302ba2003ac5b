pub mod FileFaults
pub mod Renamed
