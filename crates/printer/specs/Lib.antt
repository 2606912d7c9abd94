-- The run printer of document 01 as a definition, and the text that the program builds.
pub mod Printing
pub mod Building
