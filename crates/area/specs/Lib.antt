-- The words of the linked working area.
pub mod Words
pub mod Ready
pub mod Joins
