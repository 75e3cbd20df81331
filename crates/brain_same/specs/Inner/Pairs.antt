-- Pairs of states to which the same answers lead.
use Rattle.std.specs.Prelude.{◌≡◌, ℕ, ◌+◌, ◌<◌, Bool, true, false, List, ◌++◌, length, slice_index, Option, option_map, option_to_list}
use Rattle.std.specs.Option.{option_and_then}
use Rattle.brain_read.specs.declared.instr.Instr.{Instr}
use Rattle.ant_turn.specs.Turn.{instruction_at}
use Rattle.brain_same.specs.declared.search.Pair.{Pair}
use Rattle.brain_same.specs.Answers.{next_by}
use Rattle.brain_same.specs.Inner.Classes.{AreJoined}

-- its states are states of the brains
abbrev pub IsInside : List Instr → List Instr → Pair → Type 0
IsInside first second pair = (pair.first < length first) × (pair.second < length second)

-- the pair to which an answer leads, if both instructions have it
abbrev pub pair_after : List Instr → List Instr → Pair → Bool → Option Pair
pair_after first second pair met =
    option_and_then
    (λ a. option_map (λ b. record { first = a; second = b; answers = pair.answers + 1 })
    (next_by (instruction_at second pair.second) met))
    (next_by (instruction_at first pair.first) met)

-- its states were in one class and nothing changed, or their classes were joined and the pairs that follow it wait
pub data IsFollowed (first second : List Instr) (pair : Pair) (old new : List ℕ)
    (waiting after : List Pair) : Type 0 where
  PassedOver : slice_index old pair.first ≡ slice_index old (length first + pair.second) → new ≡ old → after ≡ waiting
      → IsFollowed first second pair old new waiting after
  Followed : AreJoined old new pair.first (length first + pair.second)
      → after ≡ (waiting ++ option_to_list (pair_after first second pair true))
      ++ option_to_list (pair_after first second pair false)
      → IsFollowed first second pair old new waiting after
