-- The meaning of the coefficients, in reading order; `Steps` has what only private functions cite.
pub mod Common
pub mod Ratio
pub mod Lcc
pub mod Call
pub mod Meaning
pub mod Steps
