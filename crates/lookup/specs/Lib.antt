-- What the promises of this crate mean: one entry taken out of a table.
pub mod Lookup
