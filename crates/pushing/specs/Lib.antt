-- What the rows of cells hold while counts are pushed forward.
pub mod Pushing
