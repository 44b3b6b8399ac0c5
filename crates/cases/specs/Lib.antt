-- The rules "Checked examples" and "Promises worth signing", to be read beside it.
pub mod SheetGraph
pub mod Cases
pub mod Outcome
