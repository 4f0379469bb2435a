pub mod Filling
pub mod AtTheStart
