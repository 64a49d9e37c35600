-- The answers in the paper's numbers.
pub mod Outcomes
