pub mod Placed
pub mod Parts
pub mod Words
pub mod HoldsLaw
pub mod Keys
pub mod Readings
pub mod AnswerReading
pub mod MessageLineLaw
pub mod AnswerLineLaw
pub mod WellFormedBundles
pub mod ReadBundles
pub mod NumberedSections
pub mod CheckedLines
pub mod ListedBytes
pub mod ListedHolds
pub mod Silence
pub mod ComposedBundles
mod LastBytes
mod NoFiles
pub mod WrittenSlots
pub mod CutParts
pub mod Numerals
pub mod SaidHolds
pub mod SaidValues
pub mod SaidLines
pub mod SaidTexts
pub mod SaidRuns
