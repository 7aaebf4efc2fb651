-- What the proofs of several functions use.
pub mod Lists
pub mod Gathered
pub mod Readings
pub mod Answered
pub mod Promises
