pub mod Boards
pub mod BundleLines
pub mod Programs
