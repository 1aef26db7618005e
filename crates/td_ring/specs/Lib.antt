pub mod Roll
pub mod Heads
pub mod Ring
pub mod Tickets
pub mod Laws
