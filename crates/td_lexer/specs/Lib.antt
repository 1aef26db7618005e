pub mod Bytes
pub mod Numerals
pub mod Scanner
pub mod Spellings
pub mod Splits
pub mod ScanSteps
