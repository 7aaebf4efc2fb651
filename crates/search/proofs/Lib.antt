-- The laws that the proofs of the functions cite. Assumes nothing.
pub mod Digits
pub mod Stores
pub mod Doing
pub mod Begins
