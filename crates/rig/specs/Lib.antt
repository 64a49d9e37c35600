-- What the record means.
pub mod Record
