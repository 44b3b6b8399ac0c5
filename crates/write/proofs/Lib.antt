-- Laws of writing and of the texts of numbers; whoever composes writers cites `Puts`.
pub mod Puts
pub mod Digits
pub mod Signed
pub mod Texts
pub mod Places
pub mod Back
pub mod Shortest
pub mod Examples
