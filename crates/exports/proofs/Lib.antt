-- What is shown of the faces.
pub mod FaceLaws
