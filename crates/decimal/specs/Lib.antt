-- What the promises of this crate mean: a number in decimal, a piece of a line as a number, and a text put into an output.
pub mod Decimal
pub mod Put
