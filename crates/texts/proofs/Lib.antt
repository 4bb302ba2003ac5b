pub mod DecimalTexts
pub mod HexDigits
pub mod HexLaws
pub mod Sent
pub mod CutParts
pub mod FirstLines
