-- What the machine's contracts say: a step, a choice, a run, and what lies between the parts of a run.
pub mod Steps
pub mod Runs
pub mod Answered
