-- Laws of decimal numbers, and of bytes stored one after the other; below this file, a folder for each function that has a proof of its own.
pub mod Numerals
pub mod Stores
pub mod Unique
