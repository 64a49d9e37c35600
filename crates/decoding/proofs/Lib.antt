-- The laws that the proofs of decoding share.
pub mod Parts
pub mod Numbers
pub mod Signs
pub mod Listed
