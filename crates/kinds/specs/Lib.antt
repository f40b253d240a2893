-- What the promises of this crate mean: the table of kinds, and each kind's word.
pub mod Kinds
pub mod Words
