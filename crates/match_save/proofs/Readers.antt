-- What holds of readers, whatever they read.
pub mod Composed
pub mod Elements
pub mod Good
