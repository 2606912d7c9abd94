-- The laws that the functions' proofs cite: of comparing, of a vector's parts and words, and of counting.
pub mod Comparing
pub mod Parts
pub mod Counting
