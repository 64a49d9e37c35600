-- The laws of the crate.
pub mod Asking
pub mod Beginning
pub mod Whole
pub mod Lines
pub mod Worked
