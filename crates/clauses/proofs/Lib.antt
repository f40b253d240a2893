-- Laws of clauses; below this file, a folder for each function that has a proof of its own.
pub mod Saying
pub mod Cutting
pub mod Meaning
pub mod Ranges
pub mod Laws
pub mod Unique
