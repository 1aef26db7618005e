pub mod Format
pub mod Meant
