pub mod Tree
pub mod Syntax
pub mod Values
pub mod Means
pub mod Run
pub mod Pieces
pub mod Names
pub mod Text
