pub mod Entries
pub mod Rendering
pub mod SameCalls
pub mod Demand3
pub mod HistoryLaws
pub mod PremiseLaws
