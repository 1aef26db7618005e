pub mod Narrow
pub mod Scopes
pub mod Memory
