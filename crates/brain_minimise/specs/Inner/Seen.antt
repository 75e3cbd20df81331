-- States that were seen, and those whose successors weren't visited yet.
use Rattle.std.specs.Prelude.{◌≡◌, ℕ, Bool, true, false, List, [], ◌∷◌, ◌++◌, length, slice_index_or, if◌then◌else◌}
use Rattle.brain_read.specs.declared.instr.Instr.{Instr}
use Rattle.brain_minimise.specs.Reach.{IsReachable}

-- whether a state was seen
abbrev pub is_seen : List Bool → ℕ → Bool
is_seen seen state = slice_index_or seen state false

-- the waiting states, with this one if it wasn't seen before
abbrev pub with_waiting : List ℕ → Bool → ℕ → List ℕ
with_waiting waiting before state = if before then waiting else waiting ++ state ∷ []

-- the seen states are those that can be reached
pub record AreSeen (brain : List Instr) (seen : List Bool) : Type 0 where
  pub each : length seen ≡ length brain
  pub only : (state : ℕ) → is_seen seen state ≡ true → IsReachable brain state
  pub all : (state : ℕ) → IsReachable brain state → is_seen seen state ≡ true
