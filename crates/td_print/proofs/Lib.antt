pub mod Texts
pub mod Tails
pub mod Wholes
