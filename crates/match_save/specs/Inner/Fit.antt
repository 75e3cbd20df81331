-- Whether ants fit their brains, and turns their rounds.
use Rattle.std.specs.Prelude.{ℕ, ◌+◌, ◌*◌, Bool, true, ◌&&◌, ◌==◌, List, [], ◌∷◌, nat_le, nat_lt}
use Rattle.cell_world.specs.declared.ant.Colour.{Colour}
use Rattle.cell_world.specs.declared.ant.Colour.TheVariants.{Red, Black}
use Rattle.cell_world.specs.declared.ant.PlacedAnt.{PlacedAnt}
use Rattle.match_save.specs.declared.head.Head.{Head}

-- how many states the brain of a colour has
abbrev pub length_of : ℕ → ℕ → Colour → ℕ
length_of red black Red = red
length_of red black Black = black

-- whether the state of each ant is one of its colour's brain
abbrev pub are_fit : ℕ → ℕ → List PlacedAnt → Bool
are_fit red black [] = true
are_fit red black (it ∷ ants) = nat_lt it.ant.state (length_of red black it.ant.colour) && are_fit red black ants

-- whether this many ids had these turns in the rounds that are done, and drew no more random numbers than turns
abbrev pub has_turns : Head → ℕ → Bool
has_turns head ids = nat_le head.place (ids * head.round) && (head.taken + head.redone == ids * head.round)
