pub mod Ready
pub mod Reached
pub mod Lists
pub mod Listed
pub mod Searched
pub mod Higher
