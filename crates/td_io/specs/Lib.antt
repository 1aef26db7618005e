pub mod Faults
pub mod Causes
pub mod States
pub mod Memory
pub mod Quiet
pub mod Counted
pub mod Laws
