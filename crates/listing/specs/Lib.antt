-- The texts of the lines that the desk program prints.
pub mod Listing
