pub mod KeyCheck
pub mod FirstRefusal
pub mod KeyPromise
pub mod Rows
