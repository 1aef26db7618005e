pub mod Cut
pub mod Leaning
pub mod Loops
