-- What is tested in the world after each round (this project's own).
use Rattle.std.specs.Prelude.{◌≡◌, ℕ, ◌<◌, ◌≤◌, Bool, true, false, Option, Some, None}
use Rattle.hex_geometry.specs.declared.position.Pos.{Pos}
use Rattle.cell_world.specs.declared.ant.Ant.{Ant}
use Rattle.cell_world.specs.World.{World, place_in}

-- whether an ant carries food, if there is one
abbrev pub carries : Option Ant → Bool
carries None = false
carries (Some ant) = ant.laden

-- whether the ant at a place of the world, if it has one, carries food
abbrev pub carries_at : World → Option Pos → Bool
carries_at w None = false
carries_at w (Some p) = carries (w.cells p).ant

-- whether the ant with this id is alive and carries food
abbrev pub is_laden : ℕ → World → Bool
is_laden id w = carries_at w (place_in w id)

-- none of the rounds from 1 to n meets a test
abbrev pub MeetsNone : (ℕ → Bool) → ℕ → Type 0
MeetsNone test n = (round : ℕ) → 1 ≤ round → round ≤ n → test round ≡ false

-- the first of the rounds from 1 to the last that meets a test; `None` if no round does
abbrev pub IsFirstRound : (ℕ → Bool) → ℕ → Option ℕ → Type 0
IsFirstRound test last None = MeetsNone test last
IsFirstRound test last (Some first) =
    (1 ≤ first) × (first ≤ last) × (test first ≡ true) × ((round : ℕ) → 1 ≤ round → round < first → test round ≡ false)
