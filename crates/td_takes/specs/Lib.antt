pub mod Codes
pub mod Takes
pub mod Kept
pub mod Memory
pub mod TakesServed
