pub mod Wishes
pub mod Numbers
pub mod Volts
pub mod WishLines
pub mod Plans
pub mod OneReading
