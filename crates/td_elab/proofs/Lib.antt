pub mod First
pub mod Chains
pub mod Answering
pub mod Slots
