pub mod Views
pub mod Versions
pub mod Seats
pub mod Rule
