-- The meaning of the group book, in reading order: what its areas show, the rules of its calls, the book of one area, which the code
-- keeps, the book of two areas, which answers alike, a series of calls and what holds after it.
pub mod Rules
pub mod One
pub mod Two
pub mod Says
pub mod Series
pub mod Steps
