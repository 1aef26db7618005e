mod Stretches
mod Calls
mod Emptying
mod Turns
mod Rooms
mod Told
mod Places
mod Lent
pub mod Alone
