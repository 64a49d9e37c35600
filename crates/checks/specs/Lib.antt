-- What the checks come to.
pub mod Loading
