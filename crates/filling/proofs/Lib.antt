-- The laws of what is lent and told.
pub mod Laws
pub mod CountRows
pub mod Rows
