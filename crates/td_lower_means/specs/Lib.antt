pub mod Imports
pub mod CodeRun
pub mod Ready
