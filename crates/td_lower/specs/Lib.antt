pub mod Imports
pub mod Tables
pub mod Sets
pub mod Code
