pub mod Status
pub mod Causes
pub mod Lines
pub mod Errors
pub mod Passages
