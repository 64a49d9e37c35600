-- The papers' number and place of each refusal.
pub mod Numbers
pub mod Places
