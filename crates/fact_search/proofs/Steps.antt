-- The steps of a search.
pub mod Below
pub mod First
pub mod Ending
pub mod Learning
pub mod Visiting
pub mod Leading
