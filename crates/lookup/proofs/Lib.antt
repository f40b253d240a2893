-- Laws of a row's own part of a table; below this file, a folder for each function that has a proof of its own.
pub mod RowPart
pub mod Unique
