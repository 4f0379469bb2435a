pub mod Exponential
