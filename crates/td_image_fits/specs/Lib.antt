pub mod Imports
pub mod Small
pub mod Laws
