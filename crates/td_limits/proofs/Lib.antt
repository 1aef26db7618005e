pub mod Folds
pub mod Counting
pub mod Sizing
