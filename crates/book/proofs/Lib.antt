-- The laws of the layout of a book's bytes, for the proofs of the functions of this crate.
pub mod PlaceLaws
pub mod LayoutLaws
pub mod OperandLaws
