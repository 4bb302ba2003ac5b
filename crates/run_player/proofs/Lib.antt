pub mod Going
pub mod Listed
