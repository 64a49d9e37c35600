-- The laws of decimal digits and of the powers of ten.
pub mod Digits
pub mod Powers
