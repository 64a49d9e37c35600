-- The laws that the proofs of reader share.
pub mod Lines
pub mod Monitors
pub mod Tables
pub mod Listed
pub mod Held
pub mod Passing
pub mod Record
