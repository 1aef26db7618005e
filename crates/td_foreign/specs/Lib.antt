pub mod Memory
pub mod Noted
pub mod Pieces
