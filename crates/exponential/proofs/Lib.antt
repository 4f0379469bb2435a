-- Laws on plain numbers and lists that the proofs cite.
pub mod Table
pub mod Steps
pub mod ByRule
