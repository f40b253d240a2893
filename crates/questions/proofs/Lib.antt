-- Laws of questions; below this file, a folder for each function that has a proof of its own.
pub mod Tops
pub mod TruthSets
pub mod Itself
pub mod Twice
pub mod Renaming
pub mod Unique
