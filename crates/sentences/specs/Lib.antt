pub mod Words
pub mod Sentences
pub mod Kept
pub mod Rails
pub mod Marked
pub mod Remarks
