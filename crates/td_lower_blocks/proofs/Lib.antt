pub mod Laying
pub mod Ending
pub mod Heights
