-- The laws that the proofs of the functions cite. Assumes nothing.
pub mod Scanning
pub mod Lists
pub mod Paths
pub mod Wholes
pub mod Rests
pub mod Answers
