-- What filling tells and leaves.
pub mod Filling
