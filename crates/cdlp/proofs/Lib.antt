-- Laws of the CDLP kernel: `Meaning` says what the definition means, `Examples` has calls, computed.
pub mod Lists
pub mod Labels
pub mod Polls
pub mod Names
pub mod Turns
pub mod Runs
pub mod Calls
pub mod Meaning
pub mod Examples
