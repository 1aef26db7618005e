pub mod Histories
pub mod Steps
pub mod Makes
pub mod Ends
pub mod Fetches
pub mod LastStored
