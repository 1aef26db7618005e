pub mod Memory
pub mod Turns
pub mod Due
