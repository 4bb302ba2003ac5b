pub mod NameLaws
pub mod StatusBits
pub mod TableRows
