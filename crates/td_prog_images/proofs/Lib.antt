mod Names
mod Texts
