-- Laws of constraints; below this file, a folder for each function that has a proof of its own.
pub mod Requests
pub mod Unique
