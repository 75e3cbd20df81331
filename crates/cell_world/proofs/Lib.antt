-- A cell put into a world: places, numbers and weight.
pub mod Puts
pub mod Places
pub mod Totals
pub mod AliveArePlaced
pub mod Weights
pub mod Tallies
-- What every world keeps.
pub mod ValidLemmas
pub mod GridLemmas
pub mod GridSums
pub mod MarksLemmas
pub mod Sets
-- Tiles and bodies, as they are stored.
pub mod Bodies
pub mod StoredLemmas
pub mod InsideLemmas
pub mod LiveBodies
-- Parts of cells, and a world brought up to date.
pub mod Patches
pub mod PartAnswers
pub mod CatchUpLemmas
-- Those that rest, distinguished.
pub mod RestingLemmas
-- Worlds that are made: at an opening, and of cells without ants.
pub mod Rims
pub mod Plans
pub mod Openings
pub mod OpeningWeight
pub mod OpeningValid
pub mod OpeningPlaces
pub mod OpeningLaws
pub mod OpeningStores
pub mod Grounds
-- Worked values.
pub mod GroundWorked
pub mod MarksWorked
pub mod OpeningWorked
pub mod ScoreWorked
-- Each law, used.
pub mod LawsUsed
