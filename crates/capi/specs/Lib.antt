-- Answers as the numbers that C is told, and what a C caller reads in them.
pub mod Words
pub mod Told
