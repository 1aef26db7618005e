pub mod Memory
pub mod Agree
pub mod Readers
pub mod Laws
