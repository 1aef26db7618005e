pub mod Faults
pub mod Faultless
pub mod Joining
pub mod Listing
pub mod Answering
