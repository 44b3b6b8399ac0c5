-- Laws of common members, of a walk, of lowest terms, of a merge, and of the coefficients.
pub mod Commons
pub mod Walks
pub mod Ratios
pub mod Merges
pub mod Fractions
pub mod Neighbours
pub mod Calls
pub mod Meaning
pub mod Examples
