-- What the promises of this crate mean: the walk that answers a question, 01's order of requests, and what inner functions speak of; and
-- the walk without constraints, and the one by 01's own choice of sets.
pub mod Walk
pub mod Order
pub mod Inner
pub mod Seeing
pub mod Plain
pub mod Twice
