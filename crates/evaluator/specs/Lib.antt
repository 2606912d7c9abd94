-- What the contracts of the evaluator say.
pub mod Work
pub mod Passing
