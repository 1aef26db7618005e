mod Calls
mod Answered
mod Answering
