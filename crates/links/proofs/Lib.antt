-- Laws of numbered positions.
pub mod Times
pub mod Plugging
pub mod ReadyOnes
pub mod Local
