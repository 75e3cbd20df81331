pub mod Classes
pub mod Kept
pub mod Numbering
pub mod Seen
pub mod Successors
