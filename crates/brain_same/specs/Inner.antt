pub mod Blank
pub mod Classes
pub mod Pairs
pub mod Reached
