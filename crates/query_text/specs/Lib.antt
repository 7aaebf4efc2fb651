pub mod Machine
pub mod Tables
pub mod Filling
pub mod Room
