-- What the promises of this crate mean: clauses and assignments, the rules of each kind and their clauses, and the clauses of a table and a question.
pub mod Clauses
pub mod Rules
pub mod Variables
