-- What the words of the area hold of a state, and what the steps ask and make.
pub mod Standing
pub mod State
