-- The definitions that the contracts of crates/query cite. Assumes nothing: these are definitions.
pub mod Check
