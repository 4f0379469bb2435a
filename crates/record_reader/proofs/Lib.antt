pub mod LongestForm
pub mod Fields
pub mod ReadLaws
pub mod Found
