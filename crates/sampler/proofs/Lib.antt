pub mod DrawTells
pub mod BitsLeft
pub mod DrawByAttempts
pub mod WholeDraw
pub mod Agreement
pub mod DrawStops
pub mod DrawOrder
