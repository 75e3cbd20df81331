-- Pairs of states, each kept with how the search reached it.
use Rattle.std.specs.Prelude.{◌≡◌, ℕ, ◌+◌, ◌<◌, Bool, true, false, List, [], ◌∷◌, ◌++◌, length, slice_get, slice_index, Option, Some, None, option_map, option_to_list}
use Rattle.brain_read.specs.declared.instr.Instr.{Instr}
use Rattle.brain_same.specs.declared.search.Pair.{Pair}
use Rattle.brain_same.specs.declared.way_search.Reached.{Reached}
use Rattle.brain_same.specs.declared.way.Step.{Step}
use Rattle.brain_same.specs.Answers.{led_to}
use Rattle.brain_same.specs.Difference.{AreSame, IsFirstDifference}
use Rattle.brain_same.specs.Inner.Classes.{AreJoined}
use Rattle.brain_same.specs.Inner.Pairs.{pair_after}
use Rattle.brain_same.specs.Way.{way_by}

-- how the search reached the pair at a place: the first is at the start, and any other follows an earlier one by an
-- answer
pub data IsFrom (ways : List (List Bool)) (place : ℕ) (it : Reached) (way : List Bool) : Type 0 where
  Starts : place ≡ 0 → way ≡ [] → IsFrom ways place it way
  Follows : it.from < place → (before : List Bool) → slice_get ways it.from ≡ Some before → way ≡ before ++ it.met ∷ []
      → IsFrom ways place it way

-- these answers lead to the pair at a place
pub record IsReached (first second : List Instr) (ways : List (List Bool)) (place : ℕ) (it : Reached)
    (way : List Bool) : Type 0 where
  pub one : led_to first way 0 ≡ Some it.pair.first
  pub other : led_to second way 0 ≡ Some it.pair.second
  pub count : it.pair.answers ≡ length way
  pub from : IsFrom ways place it way

-- the answers that lead to each pair
pub record AreReached (first second : List Instr) (reached : List Reached) (ways : List (List Bool)) : Type 0 where
  pub each : length reached ≡ length ways
  pub at : (place : ℕ) (it : Reached) (way : List Bool) → slice_get reached place ≡ Some it
      → slice_get ways place ≡ Some way → IsReached first second ways place it way

-- some answers lead to each pair
pub record HaveWays (first second : List Instr) (reached : List Reached) : Type 0 where
  pub ways : List (List Bool)
  pub are : AreReached first second reached ways

-- these are the steps of the answers that lead to a place
abbrev pub AreStepsTo : List Instr → List Instr → List Reached → ℕ → List Step → Type 0
AreStepsTo first second reached place steps =
    (ways : List (List Bool)) (way : List Bool) → AreReached first second reached ways → slice_get ways place ≡ Some way
    → steps ≡ way_by first second way 0 0

-- a pair that follows the one at a place by an answer
abbrev pub kept_from : ℕ → Bool → Pair → Reached
kept_from place met pair = record { pair = pair; from = place; met = met }

-- the states 0, which follow none
abbrev pub start_kept : Reached
start_kept = kept_from 0 true (record { first = 0; second = 0; answers = 0 })

-- the pair to which an answer leads, if both instructions have it
abbrev pub reached_after : List Instr → List Instr → ℕ → Pair → Bool → Option Reached
reached_after first second place pair met = option_map (kept_from place met) (pair_after first second pair met)

-- its states were in one class and nothing changed, or their classes were joined and the pairs that follow it are kept
pub data IsKept (first second : List Instr) (place : ℕ) (pair : Pair) (old new : List ℕ)
    (reached after : List Reached) : Type 0 where
  PassedOver : slice_index old pair.first ≡ slice_index old (length first + pair.second) → new ≡ old → after ≡ reached
      → IsKept first second place pair old new reached after
  WereKept : AreJoined old new pair.first (length first + pair.second)
      → after ≡ (reached ++ option_to_list (reached_after first second place pair true))
      ++ option_to_list (reached_after first second place pair false)
      → IsKept first second place pair old new reached after

-- the result of the search: no pair differs, or the place of the first that does
pub data EndsAt (first second : List Instr) (reached : List Reached) : Option ℕ → Type 0 where
  NoneDiffers : AreSame first second → EndsAt first second reached None
  DiffersAt : (place : ℕ) (ways : List (List Bool)) (way : List Bool) (it : Reached)
      → AreReached first second reached ways
      → slice_get ways place ≡ Some way → slice_get reached place ≡ Some it
      → (difference : IsFirstDifference first second it.pair.answers it.pair.first it.pair.second)
      → difference.answers ≡ way
      → EndsAt first second reached (Some place)
