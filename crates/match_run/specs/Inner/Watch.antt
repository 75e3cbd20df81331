-- The reports of the turns of some ids, one after another.
use Rattle.std.specs.Prelude.{ℕ, List, [], ◌∷◌, ◌++◌}
use Rattle.ant_turn.specs.Minds.{Minds}
use Rattle.ant_turn.specs.Rounds.{Moment, after_turn}
use Rattle.match_run.specs.Told.{Telling}

-- the reports of the turns of these ids, each from the moment after those before it
abbrev pub told_in_listed : {A : Type 0} → Telling A → Minds → ℕ → Moment → List ℕ → List A
told_in_listed telling minds seed m [] = []
told_in_listed telling minds seed m (t ∷ ids) =
    telling m t ++ told_in_listed telling minds seed (after_turn minds seed m t) ids
