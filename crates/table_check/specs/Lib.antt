pub mod checker
pub mod text
pub mod Tables
pub mod FlatTables
