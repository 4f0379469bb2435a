pub mod Table
pub mod Stretches
pub mod MovingOn
pub mod RowsHeld
pub mod KeyPromise
pub mod Answers
pub mod FirstRefusal
