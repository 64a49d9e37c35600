-- The laws of the tables.
pub mod Tables
pub mod Bands
