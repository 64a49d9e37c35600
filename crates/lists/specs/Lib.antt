-- The definitions that other crates cite.
pub mod Lists
pub mod Decimal
