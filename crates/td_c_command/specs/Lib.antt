pub mod Prefix
pub mod Command
