pub mod Checks
pub mod RefusalTable
