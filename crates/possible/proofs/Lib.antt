-- Laws of sets, which the layers above cite; below this file, a folder for each function that has a proof of its own.
pub mod Bits
pub mod Images
pub mod Masks
pub mod Words
pub mod SetLoop
pub mod Filling
pub mod Twice
pub mod Notebook
pub mod Unique
pub mod Renaming
