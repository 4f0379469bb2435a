pub mod Passes
pub mod RespondTells
pub mod Left
pub mod Agreement
pub mod ByRule
pub mod Blank
