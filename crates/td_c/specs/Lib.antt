pub mod Asked
pub mod Handle
pub mod Kept
pub mod Numbers
pub mod Parts
pub mod Images
pub mod Told
pub mod Versions
