pub mod Exact
pub mod ErrorBound
