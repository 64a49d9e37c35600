-- The lemmas of this crate, and examples of its definitions.
pub mod Pieces
pub mod Examples
