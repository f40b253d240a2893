-- What the promises of this crate mean: the table without a row, and what inner functions speak of.
pub mod Strike
pub mod Inner
