pub mod Imports
pub mod Words
pub mod Ring
pub mod Format
pub mod Shape
pub mod Laws
