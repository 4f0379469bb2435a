pub mod Histories
pub mod Demand3
pub mod HistoryLaws
pub mod PremiseLaws
