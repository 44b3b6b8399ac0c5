-- What the contracts of the writers cite, in reading order.
pub mod Put
pub mod Number
pub mod Millionths
