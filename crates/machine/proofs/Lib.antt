-- The laws of the machine's states, choices and runs, for the proofs of the functions of this crate.
pub mod Phases
pub mod Fitting
pub mod Positions
pub mod Sides
pub mod Choosing
pub mod Playing
pub mod Starting
pub mod Ending
pub mod Admitting
pub mod Running
pub mod Demands
