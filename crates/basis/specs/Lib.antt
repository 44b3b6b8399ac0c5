-- What the contracts of every layer cite, in reading order.
pub mod Refusal
pub mod Order
pub mod Scan
pub mod Closure
pub mod Area
pub mod Limits
