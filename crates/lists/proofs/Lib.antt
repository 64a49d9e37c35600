-- The laws that other crates cite.
pub mod Tests
pub mod Members
pub mod Counts
pub mod Sums
pub mod Ordered
pub mod Filters
pub mod Tables
pub mod Tells
pub mod Firsts
pub mod Integers
pub mod Distinct
pub mod Permutations
pub mod Blocks
pub mod Fronts
pub mod Decimal
pub mod Splices
pub mod Halves
