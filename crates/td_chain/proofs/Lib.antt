pub mod Finding
pub mod Growing
pub mod Holding
pub mod Walking
