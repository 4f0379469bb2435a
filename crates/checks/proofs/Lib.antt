pub mod JoinedTests
pub mod Among
pub mod Degrees
pub mod AllBelow
pub mod Lines
pub mod RefusalTable
