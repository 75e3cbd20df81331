-- Which ants die in a turn, and where the others are (the task's martial arts and biology).
use Rattle.std.specs.Prelude.{◌≡◌, ◌≢◌, ℕ, ◌≤◌, None, IsSome}
use Rattle.std.specs.List.{AllPairs, Contains}
use Rattle.cell_world.specs.Valid.{Valid}
use Rattle.cell_world.specs.World.{World, place_in}
use Rattle.ant_turn.specs.FoodLaws.{killed_in, world_after_turn}
use Rattle.ant_turn.specs.Minds.{Minds}

-- which ants are alive, and where, after the turn of id t
pub record KillsAlone (minds : Minds) (seed : ℕ) (w : World) (place t : ℕ) : Type 0 where
  -- the killed were alive
  pub were_alive : (u : ℕ) → Contains (killed_in minds seed w place t) u → IsSome (place_in w u)
  -- they are gone
  pub are_gone : (u : ℕ) → Contains (killed_in minds seed w place t) u
      → place_in (world_after_turn minds seed w place t) u ≡ None
  -- they are pairwise different
  pub differ : AllPairs ◌≢◌ (killed_in minds seed w place t)
  -- every other ant stays where it is, or stays dead, except that t itself may move
  pub others_stay : (u : ℕ) → u ≢ t → (Contains (killed_in minds seed w place t) u → ⊥)
      → place_in (world_after_turn minds seed w place t) u ≡ place_in w u
  -- t itself stays alive if it isn't killed
  pub own_lives : (Contains (killed_in minds seed w place t) t → ⊥) → IsSome (place_in w t)
      → IsSome (place_in (world_after_turn minds seed w place t) t)
  -- t stays dead if it was dead
  pub dead_stay : place_in w t ≡ None → place_in (world_after_turn minds seed w place t) t ≡ None

-- this holds for each turn
abbrev pub TurnsKillAlone : Type 0
TurnsKillAlone =
    (minds : Minds) (seed : ℕ) (w : World) (place t : ℕ) → minds.sheet.corpse ≤ 9 → Valid w
    → KillsAlone minds seed w place t
