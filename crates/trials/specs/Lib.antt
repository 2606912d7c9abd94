-- What a trial is, when the proved entries agree with it, and how trials are counted.
pub mod Vectors
pub mod Agreement
pub mod Sets
pub mod Tallies
