-- What unranking and ranking read, and what they tell.
pub mod Ranks
