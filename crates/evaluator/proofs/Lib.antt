-- The laws of the parts, their sets and their answers, for the proofs of the functions of this crate.
pub mod WorkLaws
pub mod Decoder
pub mod Down
pub mod Opening
pub mod Answering
pub mod Answer
