-- What the contracts on arrays of sixteen rows say, for rows of any width from 8 to 16.
pub mod Chunks
pub mod Arrays
