pub mod Bodies
pub mod CatchUp
pub mod Index
pub mod Inside
pub mod OpeningPlaces
pub mod Replaces
pub mod Stored
pub mod ToldApart
