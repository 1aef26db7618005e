pub mod Chains
pub mod Depth
pub mod Laws
pub mod Counted
