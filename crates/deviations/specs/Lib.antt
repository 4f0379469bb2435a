pub mod Deviations
