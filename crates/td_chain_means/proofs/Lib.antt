mod Ending
mod Tests
mod Numbers
mod Spelled
mod Meant
