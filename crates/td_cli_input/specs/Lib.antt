pub mod Imports
pub mod Marker
pub mod Causes
pub mod Inputs
