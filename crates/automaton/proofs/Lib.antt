-- The theorems, in the order of specs/.
pub mod Joint
pub mod Sentences
pub mod Pruning
pub mod Counting
pub mod Ranking
pub mod Cells
pub mod Table
pub mod Forward
pub mod Windows
pub mod Shuffle
pub mod Source000
