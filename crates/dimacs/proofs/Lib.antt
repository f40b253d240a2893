-- Laws of the file's text; below this file, a folder for each function that has a proof of its own.
pub mod Parts
pub mod Shown
pub mod Texts
pub mod Unique
