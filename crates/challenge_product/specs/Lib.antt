pub mod Product
pub mod Modulo
pub mod InOrder
