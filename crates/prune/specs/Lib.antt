pub mod Holds
pub mod Sides
