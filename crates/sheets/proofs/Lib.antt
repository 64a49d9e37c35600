-- The laws of this crate.
pub mod Texts
pub mod SharedStarts
pub mod Parts
pub mod Answers
