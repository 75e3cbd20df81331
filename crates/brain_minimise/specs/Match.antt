-- Games with a brain and with its minimised one (the task's game play).
pub use Rattle.ant_turn.specs.HillLaws.{game_after as game}
use Rattle.std.specs.Prelude.{◌≡◌, ◌≢◌, ℕ, List, Option, Some, None}
use Rattle.hex_geometry.specs.declared.position.Pos.{Pos}
use Rattle.cell_world.specs.declared.ant.Ant.{Ant}
use Rattle.cell_world.specs.declared.ant.Colour.{Colour}
use Rattle.cell_world.specs.declared.kind.Kind.{Kind}
use Rattle.cell_world.specs.Score.{score_of}
use Rattle.cell_world.specs.World.{World}
use Rattle.brain_read.specs.declared.instr.Instr.{Instr}
use Rattle.ant_turn.specs.Minds.{Minds, mind_of}
use Rattle.ant_turn.specs.Renumber.{renumbered_moment, with_mind}
use Rattle.brain_minimise.specs.Minimised.{IsMinimised, new_number}

-- for any opening world, other brain, numbers of the rules, seed, side and number of rounds: the game with the
-- minimised brain on that side is the game with the brain, except for the numbers of that side's states, at the same
-- place of the stream
abbrev pub PlaysAlike : Type 0
PlaysAlike =
    (minds : Minds) (side : Colour) (brain : List Instr) (numbers : List (Option ℕ)) (seed width height : ℕ)
    (kinds : List Kind) (r : ℕ)
    → IsMinimised (mind_of minds side) brain numbers →
    game (with_mind minds side brain) seed width height kinds r
    ≡ renumbered_moment (new_number numbers) side (game minds seed width height kinds r)

-- so the scores are equal
abbrev pub ScoresAlike : Type 0
ScoresAlike =
    (minds : Minds) (side : Colour) (brain : List Instr) (numbers : List (Option ℕ)) (seed width height : ℕ)
    (kinds : List Kind) (r : ℕ)
    → IsMinimised (mind_of minds side) brain numbers →
    score_of (game (with_mind minds side brain) seed width height kinds r).world
    ≡ score_of (game minds seed width height kinds r).world

-- one ant equals the other, except for its state if it is of this side
abbrev pub IsMatchingAnt : Colour → Option Ant → Option Ant → Type 0
IsMatchingAnt side None None = Unit {0}
IsMatchingAnt side None (Some b) = ⊥
IsMatchingAnt side (Some a) None = ⊥
IsMatchingAnt side (Some a) (Some b) = (b ≡ record a { state = b.state }) × (a.colour ≢ side → b.state ≡ a.state)

-- one world equals the other, except for the states of this side's ants: the sizes and the number of ids are equal, and
-- each cell is the same except for such a state
pub record DiffersInStates (side : Colour) (old new : World) : Type 0 where
  pub width : new.width ≡ old.width
  pub height : new.height ≡ old.height
  pub ids : new.ids ≡ old.ids
  pub cells : (p : Pos) → new.cells p ≡ record (old.cells p) { ant = (new.cells p).ant }
  pub ants : (p : Pos) → IsMatchingAnt side (old.cells p).ant (new.cells p).ant

-- so what a dump shows after any round differs only in that side's states
abbrev pub DumpsAlike : Type 0
DumpsAlike =
    (minds : Minds) (side : Colour) (brain : List Instr) (numbers : List (Option ℕ)) (seed width height : ℕ)
    (kinds : List Kind) (r : ℕ)
    → IsMinimised (mind_of minds side) brain numbers →
    DiffersInStates side (game minds seed width height kinds r).world
    (game (with_mind minds side brain) seed width height kinds r).world
