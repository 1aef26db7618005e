pub mod Text
pub mod Frames
pub mod Depth
pub mod PartsText
