pub mod Shapes
pub mod Effects
pub mod Ways
pub mod Costs
pub mod Stretches
mod Bounds
pub mod Runs
