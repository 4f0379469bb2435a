pub mod Thresholds
pub mod BaseSampleLaws
pub mod Agreement
pub mod Reordering
