-- Laws of striking; below this file, a folder for each function that has a proof of its own.
pub mod Renumbering
pub mod Closing
pub mod Taken
pub mod Laws
pub mod Telling
pub mod Marks
pub mod Filling
pub mod Answering
pub mod Keeping
pub mod Unique
