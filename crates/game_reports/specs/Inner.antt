-- Definitions between the public ones and the code; no public clause cites them.
pub mod ActWords
pub mod Broken
pub mod Chunks
pub mod EventWords
pub mod Tallies
pub mod WayWords
