-- Laws of values row by row, of decisions and of reach; below this file, a folder for each function that has a proof of its own.
pub mod RowByRow
pub mod Filled
pub mod Among
pub mod Renaming
pub mod Reaching
pub mod Independence
pub mod Unique
pub mod Rules
