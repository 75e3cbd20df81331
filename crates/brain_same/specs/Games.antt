-- Games with brains that are the same (the task's game play).
pub use Rattle.ant_turn.specs.HillLaws.{game_after as game}
use Rattle.std.specs.Prelude.{◌≡◌, ℕ, List}
use Rattle.cell_world.specs.declared.ant.Colour.{Colour}
use Rattle.cell_world.specs.declared.kind.Kind.{Kind}
use Rattle.cell_world.specs.Score.{score_of}
use Rattle.cell_world.specs.World.{World}
use Rattle.brain_read.specs.declared.instr.Instr.{Instr}
use Rattle.ant_turn.specs.Minds.{Minds, mind_of}
use Rattle.ant_turn.specs.Renumber.{renumbered_world, with_mind}
use Rattle.ant_turn.specs.Rounds.{Moment}
use Rattle.brain_minimise.specs.Match.{DiffersInStates}
use Rattle.brain_same.specs.Difference.{AreSame}

-- one moment is as another except for the states of this side's ants: its world is, the same number of random numbers
-- was used, and the score is equal
pub record IsSameBut (side : Colour) (old new : Moment) : Type 0 where
  pub world : DiffersInStates side old.world new.world
  pub place : new.place ≡ old.place
  pub score : score_of new.world ≡ score_of old.world

-- for any opening world, other brain, numbers of the rules, seed, side and number of rounds: with one brain instead of
-- the other on that side, the game is the same except for the states of that side's ants
abbrev pub PlaysSame : Type 0
PlaysSame =
    (minds : Minds) (side : Colour) (brain : List Instr) (seed width height : ℕ) (kinds : List Kind) (r : ℕ)
    → AreSame (mind_of minds side) brain →
    IsSameBut side (game minds seed width height kinds r) (game (with_mind minds side brain) seed width height kinds r)

-- the world with every ant in state 0
abbrev pub without_states : World → World
without_states w = renumbered_world (λ _ _. 0) w

-- one moment is as another except for the states of ants: without these the worlds are equal, the same number of random
-- numbers was used, and the score is equal
pub record IsSameButStates (old new : Moment) : Type 0 where
  pub world : without_states new.world ≡ without_states old.world
  pub place : new.place ≡ old.place
  pub score : score_of new.world ≡ score_of old.world

-- with other brains on both sides, each the same as the one before, the game is the same except for the states of ants
abbrev pub BothPlaySame : Type 0
BothPlaySame =
    (minds : Minds) (red black : List Instr) (seed width height : ℕ) (kinds : List Kind) (r : ℕ) → AreSame minds.red red
    → AreSame minds.black black →
    IsSameButStates (game minds seed width height kinds r)
    (game (record minds { red = red; black = black }) seed width height kinds r)
