pub mod Imports
pub mod SafeModule
pub mod Sides
pub mod Sizes
pub mod Laws
pub mod Known
pub mod Memory
