-- What is shown of the printer. `Enough` says how much of the input decides; `Examples` computes document 01's two examples.
pub mod Enough
pub mod Examples
-- the text and the lines
pub mod DecimalLaws
pub mod LineLaws
-- the order of the answers, the input's parts, what a read adds, and what a run leaves
pub mod Ways
pub mod InputLaws
pub mod Reading
pub mod Finishing
