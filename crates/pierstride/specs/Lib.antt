-- What the services answer, and what the theorems about the desk's demands speak of.
pub mod Masks
pub mod Services
pub mod Demands
