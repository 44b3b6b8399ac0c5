-- Laws of matching.
pub mod Closeness
pub mod FirstPlaces
pub mod Leasts
pub mod Mismatches
pub mod Readings
pub mod Covering
pub mod Records
pub mod NumberLines
pub mod DecimalLines
pub mod Judging
pub mod Covers
pub mod Meaning
pub mod Claims
pub mod Orders
pub mod Listing
pub mod Examples
