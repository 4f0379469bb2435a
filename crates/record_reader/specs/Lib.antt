pub mod Call
pub mod Checked
