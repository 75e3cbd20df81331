-- When a look at a turn is still valid: when it says what the turn does (this project's own).
use Rattle.std.specs.Prelude.{◌≡◌, ℕ, true}
use Rattle.std.specs.List.{AllByRecursion}
use Rattle.cell_world.specs.Parts.{Agree}
use Rattle.cell_world.specs.World.{Cells, World}
use Rattle.ant_turn.specs.Minds.{Minds}
use Rattle.spec_record.specs.Claims.{seen_cell, seen_parts, seen_place}
use Rattle.spec_record.specs.Guess.{flips}
use Rattle.spec_record.specs.Look.{LookValue}
use Rattle.spec_record.specs.Reads.{reads}

-- a look at turn t on the base is valid in the world `now` at this place: base and `now` are equal in every part that
-- the turn reads in the base, and if it executes a Flip there, the place is the guess
pub record Holds (minds : Minds) (base : World) (guess : ℕ) (now : World) (place t : ℕ) : Type 0 where
  pub unchanged : AllByRecursion (λ read. Agree read.parts (base.cells read.at) (now.cells read.at)) (reads minds base t)
  pub guessed : flips minds base t ≡ true → place ≡ guess

-- the same for what a given look has stored
pub record LookHolds (look : LookValue) (cells : Cells) (place : ℕ) : Type 0 where
  pub unchanged : AllByRecursion (λ read. Agree (seen_parts read) (seen_cell read) (cells (seen_place read))) look.reads
  pub guessed : look.drew ≡ true → place ≡ look.guess
