-- What the promises of this crate mean: what constraints say of a request, and of known facts.
pub mod Constraints
