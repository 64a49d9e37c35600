-- How far a batch of scenarios is written.
pub mod Batches
