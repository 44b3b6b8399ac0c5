-- Laws that every layer cites.
pub mod Tests
pub mod Saids
pub mod Scans
pub mod Firsts
pub mod Closures
pub mod Orders
pub mod Minus
pub mod Sets
pub mod Areas
pub mod Alls
