pub mod Lists
pub mod Equals
pub mod Digits
pub mod Truths
