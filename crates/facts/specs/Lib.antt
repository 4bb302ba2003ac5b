pub mod domain
pub mod duties
pub mod transfer
pub mod well_formed
pub mod Steps
pub mod FactLaws
pub mod BlameLaws
pub mod Witnesses
