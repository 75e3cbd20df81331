-- Definitions between the public ones and the code; no public clause cites them.
pub mod Changes
pub mod Kept
pub mod Passes
pub mod Workspace
