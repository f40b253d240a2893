-- Laws of the table of kinds and of the kinds' words; below this file, a folder for each function that has a proof of its own.
pub mod KindTable
pub mod Spelling
pub mod Storing
pub mod Unique
