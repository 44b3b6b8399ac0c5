-- Both theorems follow from the third demand; a shift worked in two orders.
pub mod Counts
pub mod Order
pub mod Examples
