pub mod Compile
pub mod Laws
