pub mod Imports
pub mod Report
pub mod Laws
