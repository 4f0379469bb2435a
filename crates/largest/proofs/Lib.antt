pub mod Falling
pub mod Places
pub mod LargestSum
pub mod Threshold
pub mod Excess
pub mod Bracket
