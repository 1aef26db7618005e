pub mod Imports
pub mod Need
pub mod Frames
pub mod Exits
pub mod Machine
pub mod Outcomes
pub mod Arm
