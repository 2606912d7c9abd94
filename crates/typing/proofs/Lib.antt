-- What is shown for the proofs of the code.
pub mod EntryLaws
pub mod PackLaws
pub mod LeafLaws
pub mod TallyLaws
pub mod WalkLaws
pub mod CycleLaws
pub mod BesideLaws
pub mod BodyLaws
pub mod CountLaws
pub mod FrontLaws
pub mod SizeLaws
pub mod TableLaws
pub mod FillLaws
pub mod SumLaws
pub mod TurnLaws
pub mod EndLaws
