pub mod Response
pub mod ByRule
pub mod Blank
