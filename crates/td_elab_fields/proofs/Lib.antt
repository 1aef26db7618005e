pub mod Steps
pub mod Growing
pub mod SizeTurns
pub mod Narrow
