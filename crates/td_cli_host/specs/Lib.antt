pub mod Rings
pub mod ServedInput
pub mod Laws
