-- What the promises of this crate mean: the four decisions, the two orders, and the meet, join and negation of each.
pub mod Decisions
pub mod Lattice
pub mod Orders
pub mod One
