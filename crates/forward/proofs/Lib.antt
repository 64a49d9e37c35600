-- The laws of the call's steps.
pub mod Laws
