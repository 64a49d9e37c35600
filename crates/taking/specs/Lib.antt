-- What the contracts of this crate cite beside crates promises, rig and kinds.
pub mod Taking
