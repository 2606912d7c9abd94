-- What the contracts of the book name beside the rules.
pub mod Operands
