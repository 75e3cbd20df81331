pub mod Moves
pub mod Laid
pub mod Near
pub mod Sightings
pub mod Stays
