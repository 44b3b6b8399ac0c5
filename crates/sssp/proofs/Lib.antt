-- Laws of the tree of winners, of the steps, of the definition's rounds, of the search, of the whole call, and what the distances mean.
pub mod Winners
pub mod Walks
pub mod Rounds
pub mod Serving
pub mod Turns
pub mod Calls
pub mod Meaning
pub mod Examples
