mod Halves
mod Answered
