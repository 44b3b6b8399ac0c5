-- Change K11, "Entry order of a shift", to be read beside the third demand (`book` `Series`).
pub mod Order
