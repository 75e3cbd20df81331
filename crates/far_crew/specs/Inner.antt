-- Definitions between the public ones and the code; no public clause cites them.
pub mod Cells
pub mod Copies
pub mod Picks
pub mod Turns
