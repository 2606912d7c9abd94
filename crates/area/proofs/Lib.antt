-- Laws of the area's words.
pub mod Moves
pub mod Words
pub mod Listing
pub mod Lending
pub mod Relisting
pub mod Joining
