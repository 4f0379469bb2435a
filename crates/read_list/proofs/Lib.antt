-- Laws on entries and on lists of them that the proofs cite.
pub mod Entries
pub mod Written
pub mod InPart
pub mod Runs
pub mod FilledPart
pub mod Parts
pub mod Agreement
