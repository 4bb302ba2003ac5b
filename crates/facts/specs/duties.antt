pub mod RuleNames
pub mod Allowing
pub mod Permitting
pub mod Duties
pub mod Touching
pub mod KnownBytes
pub mod Violations
pub mod Blaming
