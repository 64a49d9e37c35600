-- The definitions that the contracts of shuffle cite.
pub mod Outcome
pub mod Buckets
pub mod Places
