pub mod Lines
pub mod ShownLines
pub mod Marks
pub mod Nearest
pub mod Notes
