-- What is kept of the rows.
pub mod Keeping
