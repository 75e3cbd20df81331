-- Games with an assembled brain and with its labelled program (the task's game play).
use Rattle.std.specs.Prelude.{◌≡◌, ℕ, List, if◌then◌else◌, option_map}
use Rattle.cell_world.specs.declared.ant.Ant.{Ant}
use Rattle.cell_world.specs.declared.ant.Colour.{Colour}
use Rattle.cell_world.specs.declared.cell.Cell.{Cell}
use Rattle.cell_world.specs.declared.kind.Kind.{Kind}
use Rattle.cell_world.specs.Colour.{same_colour}
use Rattle.cell_world.specs.Grid.{world_of}
use Rattle.cell_world.specs.Opening.{opening}
use Rattle.cell_world.specs.Score.{score_of}
use Rattle.cell_world.specs.Valid.{Valid}
use Rattle.cell_world.specs.World.{with_cells}
use Rattle.brain_read.specs.declared.instr.Instr.{Instr}
use Rattle.ant_turn.specs.Minds.{Minds, AreSound}
use Rattle.ant_turn.specs.Renumber.{with_mind}
use Rattle.ant_turn.specs.Rounds.{Moment, after_rounds, start_of}
use Rattle.ant_asm.specs.Program.{Items}
use Rattle.ant_asm.specs.Places.{Address}
use Rattle.ant_asm.specs.Assembled.{IsAssembled, number_in}
use Rattle.ant_asm.specs.LabelGame.{LabelMoment, label_rounds, label_start}

-- the ant; if it is of this side, its state is replaced by the number of its address
abbrev pub numbered_ant : List Address → Colour → (ℕ → Address) → Ant → Ant
numbered_ant places side addresses ant =
    record ant { state = if same_colour side ant.colour then number_in places (addresses ant.id) else ant.state }

abbrev pub numbered_cell : List Address → Colour → (ℕ → Address) → Cell → Cell
numbered_cell places side addresses cell =
    record cell { ant = option_map (numbered_ant places side addresses) cell.ant }

-- the moment with each address replaced by its number
abbrev pub numbered_moment : List Address → Colour → LabelMoment → Moment
numbered_moment places side m = record {
  world = with_cells m.world (λ p. numbered_cell places side m.address (m.world.cells p));
  place = m.place;
}

-- the moment after r rounds of the labelled game that starts in the opening world of these kinds
abbrev pub label_game : Items → Colour → Minds → ℕ → ℕ → ℕ → List Kind → ℕ → LabelMoment
label_game main side minds seed width height kinds r =
    label_rounds main side minds seed (label_start main (world_of (opening width height kinds))) r

-- The game with the assembled brain on one side is the labelled game, with each address replaced by its number. It is
-- at the same place of the stream. This holds for any opening world, other brain, numbers of the rules, seed, side and
-- number of rounds.
abbrev pub PlaysLabelled : Type 0
PlaysLabelled = (main : Items) (brain : List Instr) (list : List Address) → IsAssembled main brain list →
    (side : Colour) (minds : Minds) (seed width height : ℕ) (kinds : List Kind) (r : ℕ)
    → AreSound (with_mind minds side brain) → Valid (world_of (opening width height kinds)) →
    after_rounds (with_mind minds side brain) seed (start_of (world_of (opening width height kinds))) r
    ≡ numbered_moment list side (label_game main side minds seed width height kinds r)

-- so the scores are equal
abbrev pub ScoresLabelled : Type 0
ScoresLabelled = (main : Items) (brain : List Instr) (list : List Address) → IsAssembled main brain list →
    (side : Colour) (minds : Minds) (seed width height : ℕ) (kinds : List Kind) (r : ℕ)
    → AreSound (with_mind minds side brain) → Valid (world_of (opening width height kinds)) →
    score_of (after_rounds (with_mind minds side brain) seed (start_of (world_of (opening width height kinds))) r).world
    ≡ score_of (label_game main side minds seed width height kinds r).world
