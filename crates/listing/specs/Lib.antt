-- The whole output of the program, and what its functions tell of it.
pub mod Listing
pub mod Printing
