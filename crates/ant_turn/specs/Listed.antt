-- Turns of some ids, one after another (this project's own).
use Rattle.std.specs.Prelude.{◌≡◌, ◌≢◌, ⊤, ℕ, ◌<◌, List, [], ◌∷◌, Some}
use Rattle.std.specs.List.{AllByRecursion}
use Rattle.hex_geometry.specs.declared.position.Pos.{Pos}
use Rattle.cell_world.specs.declared.ant.Ant.{Ant}
use Rattle.cell_world.specs.World.{World}
use Rattle.ant_turn.specs.Minds.{Minds}
use Rattle.ant_turn.specs.Rounds.{Moment, after_turn}

-- the moment after the turns of these ids, one after another
abbrev pub after_listed : Minds → ℕ → Moment → List ℕ → Moment
after_listed minds seed m [] = m
after_listed minds seed m (t ∷ ids) = after_listed minds seed (after_turn minds seed m t) ids

-- the ant with this id doesn't rest, if it is alive
abbrev pub IsUp : World → ℕ → Type 0
IsUp w t = (p : Pos) (ant : Ant) → (w.cells p).ant ≡ Some ant → ant.id ≡ t → ant.resting ≡ 0

-- the ids are pairwise different, were assigned, and their ants don't rest
abbrev pub AreUp : World → List ℕ → Type 0
AreUp w [] = ⊤
AreUp w (t ∷ ids) = IsUp w t × t < w.ids × AllByRecursion (λ u. u ≢ t) ids × AreUp w ids
