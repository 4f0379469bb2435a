pub mod Largest
pub mod Threshold
