-- Laws of what is said and of one entry; below this file, a folder for each function that has a proof of its own.
pub mod Numbers
pub mod Lists
pub mod Putting
pub mod OneEntry
pub mod Saying
pub mod Sending
pub mod Unique
