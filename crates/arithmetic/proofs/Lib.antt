-- Laws on plain numbers that the proofs cite.
pub mod Bits
pub mod Order
