pub mod Imports
pub mod Nesting
pub mod Weights
pub mod Good
pub mod Laws
pub mod Modules
