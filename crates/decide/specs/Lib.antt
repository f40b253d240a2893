-- What the promises of this crate mean: values row by row, what a row decides at a complete request, which rows and
-- predicates it reaches, and requests beside each other.
pub mod Rows
pub mod Meaning
pub mod Reach
pub mod Requests
