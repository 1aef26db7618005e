pub mod Comparing
pub mod Halving
