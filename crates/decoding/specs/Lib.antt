-- The definitions that the contracts of decoding cite.
pub mod Forms
