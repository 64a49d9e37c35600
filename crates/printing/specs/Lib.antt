-- The part of a listing that is printed.
pub mod Part
