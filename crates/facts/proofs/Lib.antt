pub mod Shared
pub mod Sound
pub mod Covered
pub mod Coded
pub mod Belongs
pub mod Witness
