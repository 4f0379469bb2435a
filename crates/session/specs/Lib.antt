pub mod Calls
pub mod CallLaws
pub mod ByRule
pub mod At215
pub mod Coefficients
pub mod Blank
pub mod HighWordsFirst
