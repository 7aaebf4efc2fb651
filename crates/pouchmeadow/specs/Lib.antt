pub mod Gathered
pub mod Lent
pub mod Promised
pub mod Settled
pub mod Wrong
pub mod AxisNames
