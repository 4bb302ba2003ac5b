-- Rows that are rows of a board, by what is looked at.
pub mod EachTargets
pub mod Sets
pub mod Starts
pub mod MisfitOrder
pub mod Fitting
