-- What is in the cells before the scenarios are written.
pub mod Cells
