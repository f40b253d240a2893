-- Laws of the walk; below this file, a folder for each function that has a proof of its own.
pub mod Powers
pub mod Looks
pub mod Sights
pub mod Replies
pub mod Answers
pub mod Budgets
pub mod Plain
pub mod Itself
pub mod Twice
pub mod Renaming
pub mod Unique
