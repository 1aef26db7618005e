pub mod Imports
pub mod Passes
pub mod Inputs
pub mod ModuleText
pub mod Laws
pub mod Errors
pub mod Lines
pub mod Checked
