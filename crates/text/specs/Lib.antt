-- The text layer's meaning, in reading order: bytes, words and where they break off, lines of words and their columns, files of lines, and
-- then what the code scans from a place.
pub mod Bytes
pub mod Word
pub mod Decimal
pub mod Grammar
pub mod Stop
pub mod Weight
pub mod Line
pub mod Weighed
pub mod Distance
pub mod Column
pub mod File
pub mod Scan
