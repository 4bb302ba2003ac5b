-- What stands at an index, tables, and rows that cover rows.
pub mod Places
pub mod Tables
pub mod Covers
