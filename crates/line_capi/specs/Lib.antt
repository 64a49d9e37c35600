-- The definitions that the contracts of line_capi cite.
pub mod Room
