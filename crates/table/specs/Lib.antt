-- What the promises of this crate mean: suppliers, a step of reading, what a table holds, a table as it is read, one that keeps the rules,
-- and what a refusal says.
pub mod Suppliers
pub mod Steps
pub mod Contents
pub mod Reading
pub mod Whole
pub mod Places
