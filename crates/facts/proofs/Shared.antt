-- Lemmas of both laws: lists, ends of sets, targets and their bytes, what requests ask.
pub mod Lists
pub mod Bounds
pub mod Places
pub mod Forms
pub mod Asking
pub mod EdgeLists
