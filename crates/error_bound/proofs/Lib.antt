-- The proof of the bound on the error, lowest part first.
pub mod Near
pub mod Coefficients
pub mod Exact
pub mod Scaled
pub mod ErrorStep
pub mod Evaluation
pub mod Squarings
pub mod ErrorBound
