pub mod Lines
pub mod RunLines
pub mod Replies
pub mod Taking
pub mod Hosts
