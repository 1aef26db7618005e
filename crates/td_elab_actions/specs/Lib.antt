pub mod Scopes
pub mod Pieces
pub mod Rows
pub mod Memory
