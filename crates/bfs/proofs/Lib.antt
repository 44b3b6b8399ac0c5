-- Laws of rings and depths, of the queue's steps, of the whole call, and what they mean.
pub mod Rings
pub mod Boards
pub mod Queue
pub mod Calls
pub mod Meaning
pub mod Examples
