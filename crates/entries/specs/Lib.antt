-- What the promises of this crate mean: lists, refusals and what a call says, one entry, rows under new numbers, and what a call writes.
pub mod Lists
pub mod Refusals
pub mod Said
pub mod Entries
pub mod Renaming
pub mod Output
