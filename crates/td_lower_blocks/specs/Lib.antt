pub mod Imports
pub mod Block
pub mod Constructs
pub mod Lowered
pub mod Placed
pub mod Tabled
pub mod Laid
pub mod Tops
