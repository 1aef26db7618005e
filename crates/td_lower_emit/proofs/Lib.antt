pub mod Measures
pub mod Writing
pub mod Values
pub mod Needs
