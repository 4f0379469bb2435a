pub mod AttemptLaws
pub mod Agreement
pub mod ByRule
