pub mod History
pub mod Views
pub mod Gathered
pub mod Rule
pub mod Seats
