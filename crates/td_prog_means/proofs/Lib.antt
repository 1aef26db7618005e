pub mod Numbers
mod Means
