-- Laws of flags, of what they list, and of suppliers; below this file, a folder for each function that has a proof of its own.
pub mod Flags
pub mod Listing
pub mod Laws
pub mod Unique
