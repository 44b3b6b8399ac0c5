-- Laws of the WCC kernel.
pub mod Steps
pub mod Chains
pub mod Firsts
pub mod Passes
pub mod Joins
pub mod Calls
pub mod Meaning
pub mod Examples
