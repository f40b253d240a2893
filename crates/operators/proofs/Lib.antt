-- The formulas of the operators, and their claims; below this file, a folder for each function that has a proof of its own.
pub mod Formulas
pub mod Claims
pub mod Unique
