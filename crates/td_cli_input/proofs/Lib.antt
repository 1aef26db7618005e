pub mod Inputs
pub mod Sounds
pub mod Markers
pub mod Memory
