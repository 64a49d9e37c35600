-- The laws of the calls' steps, and the demands said of the calls.
pub mod Laws
pub mod Demands
