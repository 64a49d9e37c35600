-- The definitions that the contracts of sheets cite.
pub mod Writing
