-- What a reader has given.
pub mod Fronts
