-- What is left of nested bodies.
use Rattle.std.specs.Prelude.{List, [], ◌∷◌, ◌++◌}

-- What the bodies around a body report after it, the innermost first. `levels` has these bodies, the outermost first.
-- The way to each is the steps of the bodies around it.
abbrev pub left_by : {L S A : Type 0} → (L → S) → (L → List S → List A) → List L → List S → List A
left_by step tell [] way = []
left_by step tell (level ∷ levels) way = left_by step tell levels (way ++ step level ∷ []) ++ tell level way
