mod Written
pub mod Answered
