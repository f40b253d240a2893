-- What the promises of this crate mean: the text of clauses, and the file of a question.
pub mod Dimacs
pub mod Negations
