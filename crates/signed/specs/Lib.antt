pub mod Signs
pub mod Vectors
