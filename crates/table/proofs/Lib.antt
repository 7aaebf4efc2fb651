-- The laws behind the proofs of this crate; Laws is for other crates. Assumes nothing.
pub mod Stack
pub mod Check
pub mod Columns
pub mod Laws
