pub mod Imports
pub mod Excesses
pub mod Nodes
pub mod Counts
pub mod Measures
pub mod Depths
pub mod Weights
pub mod Sizes
