-- Laws of the services; below this file, a folder for each function that has a proof of its own.
pub mod KnownMasks
pub mod Serving
pub mod WrittenTables
pub mod Suppliers
pub mod Solver
pub mod Examples
pub mod Unique
pub mod FirstDemand
pub mod Answered
pub mod SecondDemand
pub mod ThirdDemand
pub mod Itself
