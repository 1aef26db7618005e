pub mod Errors
pub mod Pieces
