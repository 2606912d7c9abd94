-- What a face hands to a caller in another language: a code and values.
pub mod Faces
