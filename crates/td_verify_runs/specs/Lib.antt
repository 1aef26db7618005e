pub mod Imports
pub mod Moves
pub mod Stretches
pub mod Laws
