-- Definitions between the public ones and the code; no public clause cites them.
pub mod BoardCrew
pub mod BoardPlaces
pub mod BookInHand
pub mod Pieces
pub mod Shares
