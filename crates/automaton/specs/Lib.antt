-- What a reader must believe of an automaton, in the order of paper 01; then the two source documents' own definitions.
pub mod Automaton
pub mod Joint
pub mod Pruning
pub mod Counting
pub mod Ranking
pub mod Table
pub mod Forward
pub mod Windows
pub mod Shuffle
pub mod Source000
pub mod Source001
