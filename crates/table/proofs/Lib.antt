-- Laws of a step and of reading; below this file, a folder for each function that has a proof of its own.
pub mod Padding
pub mod Marking
pub mod Held
pub mod Permission
pub mod Decoding
pub mod Turns
pub mod Writing
pub mod Opening
pub mod Laws
pub mod Speaking
pub mod Mending
pub mod Renaming
pub mod Unique
