-- Definitions between the public ones and the code; no public clause cites them.
pub mod Rounds
pub mod Alone
pub mod Watch
pub mod Windows
