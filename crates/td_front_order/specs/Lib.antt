pub mod Order
pub mod Flags
pub mod Waiting
pub mod Heights
