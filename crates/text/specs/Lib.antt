-- What the promises of this crate mean: a table's text, the table that a text spells, what the calls say, what their parts do, and what a refusal says.
pub mod Lines
pub mod Texts
pub mod Calls
pub mod Inner
pub mod Places
