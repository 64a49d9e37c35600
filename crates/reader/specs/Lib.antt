-- What reading answers, and what the record that it gives is.
pub mod Reading
pub mod Record
