-- Laws of the four decisions, which the layers above cite; below this file, a folder for each function that has a proof of its own.
pub mod Finite
pub mod Codes
pub mod Bilattice
pub mod Unique
