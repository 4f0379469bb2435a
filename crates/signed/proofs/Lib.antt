pub mod Signs
pub mod Vectors
pub mod Integers
pub mod InnerProducts
