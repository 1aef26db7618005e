pub mod Giving
pub mod Memory
pub mod Tiers
