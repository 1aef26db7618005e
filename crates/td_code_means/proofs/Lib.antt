mod Fitting
mod Entries
mod Means
mod Image
