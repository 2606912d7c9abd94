-- What the contracts of sets say: a set by value, and the helpers on the list of an array's rows, where no width stands.
pub mod Lists
pub mod Whole
pub mod Packing
