-- The definitions that the contracts of decimal cite.
pub mod Powers
