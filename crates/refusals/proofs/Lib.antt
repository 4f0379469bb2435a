pub mod Few
pub mod Served
pub mod FirstRefusal
pub mod AsBefore
