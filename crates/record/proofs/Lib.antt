pub mod FieldSets
pub mod Lengths
pub mod Forms
pub mod OneForOne
