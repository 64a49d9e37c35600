-- The definitions that the contracts of line cite.
pub mod Line
pub mod Placing
pub mod Sinks
pub mod Laws
