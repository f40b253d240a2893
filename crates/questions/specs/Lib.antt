-- What the promises of this crate mean: a question's truth at a request and its set, and what inner functions speak of; and the sets by 01's own choice.
pub mod Questions
pub mod Inner
pub mod Twice
