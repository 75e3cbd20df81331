pub mod Pieces
pub mod Blank
pub mod Worlds
pub mod Tallies
