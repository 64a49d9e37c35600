-- The kinds of monitor and their tables.
pub mod Kinds
