-- What the crates above share of places.
pub mod Places
