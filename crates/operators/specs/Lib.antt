-- What the promises of this crate mean: the operators.
pub mod Operators
