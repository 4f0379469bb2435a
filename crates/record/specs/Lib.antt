pub mod Record
pub mod Lengths
pub mod Reading
pub mod OneForOne
