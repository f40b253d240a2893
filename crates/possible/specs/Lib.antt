-- What the promises of this crate mean: sets of decisions, the set of each row, and masks filled in from entries; and the sets by 01's own choice.
pub mod Sets
pub mod Possible
pub mod Twice
pub mod Filled
