pub mod Standing
mod Owning
pub mod Mapping
pub mod Tabling
pub mod Places
pub mod Codes
mod Rising
pub mod Rooms
pub mod Heights
mod Lowers
