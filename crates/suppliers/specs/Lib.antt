-- What the promises of this crate mean: the suppliers of the rows that a row reaches.
pub mod Suppliers
