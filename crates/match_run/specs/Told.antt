-- The reports of the turns of a game, one after another (this project's own; turns and rounds are the task's kinetics).
use Rattle.std.specs.Prelude.{ℕ, zero, suc, ◌+◌, List, [], ◌++◌, if◌then◌else◌, nat_lt}
use Rattle.ant_turn.specs.Minds.{Minds}
use Rattle.ant_turn.specs.Rounds.{Moment, after_rounds, after_turns}

-- the report of a turn, from the moment before it and the id whose turn it is
abbrev pub Telling : Type 0 → Type 0
Telling A = Moment → ℕ → List A

-- the reports of the turns of n ids from `from` on, in rising order, each from the moment after those before it
abbrev pub told_in_turns : {A : Type 0} → Telling A → Minds → ℕ → Moment → ℕ → ℕ → List A
told_in_turns telling minds seed m from zero = []
told_in_turns telling minds seed m from (suc n) =
    told_in_turns telling minds seed m from n ++ telling (after_turns minds seed m from n) (from + n)

-- the reports of a round: of one turn of each id in rising order
abbrev pub told_in_round : {A : Type 0} → Telling A → Minds → ℕ → Moment → List A
told_in_round telling minds seed m = told_in_turns telling minds seed m 0 m.world.ids

-- the reports of n rounds, which are counted from 1
abbrev pub told_in_rounds : {A : Type 0} → (ℕ → Telling A) → Minds → ℕ → Moment → ℕ → List A
told_in_rounds telling minds seed m zero = []
told_in_rounds telling minds seed m (suc n) =
    told_in_rounds telling minds seed m n ++ told_in_round (telling (suc n)) minds seed (after_rounds minds seed m n)

-- the reports from round `from` on: turns of earlier rounds have none
abbrev pub from_round : {A : Type 0} → ℕ → (ℕ → Telling A) → ℕ → Telling A
from_round from telling round m t = if nat_lt round from then [] else telling round m t
