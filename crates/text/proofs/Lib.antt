-- Laws of texts; below this file, a folder for each function that has a proof of its own.
pub mod Examples
pub mod Splitting
pub mod Filling
pub mod OneLine
pub mod Scanning
pub mod Judging
pub mod OneText
pub mod ByLine
pub mod Gathering
pub mod Refusing
pub mod RoundTrips
pub mod Unique
