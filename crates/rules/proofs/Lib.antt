-- What is shown of the definitions. `Demands` states the three demands; the other files are named for what they show.
pub mod Demands
pub mod Trials
pub mod Limits
pub mod Counterexamples
pub mod Examples
pub mod Edges
-- masks, packets, order, sets
pub mod Lists
pub mod MaskLaws
pub mod MaskExt
pub mod PacketLaws
pub mod Orders
pub mod Putting
pub mod Sets
pub mod Lacked
pub mod Below
-- a book is accepted exactly if it is a right policy, written
pub mod CheckLaws
pub mod HandingUp
pub mod ReadingLaws
pub mod CodeLaws
pub mod Decoding
pub mod Standing
pub mod Whole
pub mod WrittenBytes
pub mod FieldsBelow
pub mod FineLaws
pub mod Faults
pub mod Replacing
pub mod Acceptance
pub mod Refusing
pub mod AcceptedBooks
pub mod Inside
-- the meaning: Lemma 5, and that the working gives exactly it
pub mod TypingLaws
pub mod Frame
pub mod Serial
pub mod Exact
pub mod Padding
-- the steps: every schedule, the room, the width, the bound, never stuck
pub mod Measures
pub mod Bounds
pub mod Steps
pub mod Schedules
pub mod Ways
pub mod Rooms
pub mod Widths
pub mod Choose
pub mod Everywhere
pub mod Places
pub mod Stuck
-- the answers
pub mod Answering
pub mod Numbers
pub mod Runs
pub mod Ends
