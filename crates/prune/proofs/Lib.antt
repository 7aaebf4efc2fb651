pub mod Words
pub mod Kept
pub mod Sides
pub mod Entry
pub mod Seen
