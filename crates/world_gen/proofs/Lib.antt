-- Trials: each drawn, and the numbers that they take.
pub mod Steps
pub mod Trials
pub mod Follows
-- What lies free.
pub mod Bares
pub mod Balls
pub mod Lines
pub mod CellLists
pub mod SetLists
pub mod Separate
-- A placing: stamped, unique, and had wherever there is room.
pub mod Stamps
pub mod Foods
pub mod Makings
pub mod Unique
pub mod HasPlacings
pub mod HasWorlds
-- Worked values.
pub mod Worked
pub mod WorkedPlacing
-- Each law, used.
pub mod LawsUsed
