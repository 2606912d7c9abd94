-- Laws of the steps.
pub mod Standing
pub mod Heads
pub mod Changes
pub mod Laying
pub mod Making
pub mod News
pub mod Rising
pub mod Refining
pub mod Entering
pub mod Leaving
pub mod Marking
