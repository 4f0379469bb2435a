pub mod Entries
pub mod Agreement
