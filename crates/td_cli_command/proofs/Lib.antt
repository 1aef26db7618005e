pub mod OneCommand
pub mod Words
pub mod Matches
