-- Laws of sets in arrays of rows.
pub mod Rows
pub mod Merging
pub mod Inserting
pub mod Sifting
pub mod Pairing
pub mod Whole
