pub mod Loaded
pub mod Places
pub mod Chain
pub mod Walks
pub mod Laws
