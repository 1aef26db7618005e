pub mod Prefixes
pub mod Growth
