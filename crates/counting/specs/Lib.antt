-- What the cells are filled from.
pub mod Tabled
