pub mod Faults
pub mod Packed
pub mod Told
pub mod Written
