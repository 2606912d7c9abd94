-- Laws of arrays of sixteen rows, over any width.
pub mod Chunks
pub mod Comparing
pub mod Clearing
pub mod Holding
pub mod Mixing
pub mod Padding
pub mod Words
