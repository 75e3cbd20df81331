-- The world that a game leaves, worked out: two ants side by side, whose states count their turns.
use Rattle.std.proofs.Common.{◌≡◌, ℕ, [], ◌∷◌, Option, Some, None, refl, ap, ◌∙◌}
use Rattle.hex_geometry.specs.Position.{same_pos}
use Rattle.cell_world.specs.declared.ant.Ant.{Ant}
use Rattle.cell_world.specs.declared.kind.Kind.TheVariants.{Rock, RedHill}
use Rattle.cell_world.specs.Cell.{rock}
use Rattle.cell_world.specs.Grid.{cell_in, world_of}
use Rattle.cell_world.specs.Opening.{floor, opening}
use Rattle.cell_world.specs.World.{World, place_in, put_cell}
use Rattle.brain_read.specs.declared.instr.Instr.TheVariants.{Drop}
use Rattle.ant_turn.specs.Minds.{Minds, contest_minds}
use Rattle.ant_turn.specs.Rounds.{after_round, after_turn}
use Rattle.ant_turn.specs.Turn.{turn}
use Rattle.match_run.specs.Run.{world_after}
use Rattle.break_view.specs.declared.breaks.Break.TheVariants.{Round}
use Rattle.break_view.specs.Stops.{EndsAt, world_at, world_in_round}

abbrev pair : World
pair = world_of (opening 4 3 (Rock ∷ Rock ∷ Rock ∷ Rock ∷ Rock ∷ RedHill ∷ RedHill ∷ Rock ∷ Rock ∷ Rock ∷ Rock ∷ Rock ∷ []))

abbrev counting : Minds
counting = contest_minds (Drop 1 ∷ Drop 2 ∷ Drop 3 ∷ Drop 3 ∷ []) (Drop 0 ∷ [])

-- how many turns an ant had
abbrev turns_of : Option Ant → ℕ
turns_of None = 9
turns_of (Some ant) = ant.state

-- how many turns the ant in this column had
abbrev turns_in : ℕ → World → ℕ
turns_in x w = turns_of (w.cells (record { x = x; y = 1 })).ant

turns_at : (turns_in 1 (world_at counting 7 pair 2 0) ≡ 2) × (turns_in 2 (world_at counting 7 pair 2 0) ≡ 1)
    × (turns_in 1 (world_after counting 7 pair 2) ≡ 2) × (turns_in 2 (world_after counting 7 pair 2) ≡ 2)
unfolding world_after world_in_round after_round after_turn turn place_in cell_in opening floor rock put_cell same_pos
turns_at = (refl, refl, refl, refl)

-- a stop leaves the world after that very turn: in round 2 the ant of id 0 had its second turn, and the other one
-- hadn't
left_at_stop : (end : World) → EndsAt counting 7 5 0 pair (Round 2 ∷ []) (Some (record { round = 2; id = 0; which = 1 })) end → (turns_in 1 end ≡ 2) × (turns_in 2 end ≡ 1)
left_at_stop end ends = (ap (turns_in 1) ends.1 ∙ turns_at.0, ap (turns_in 2) ends.1 ∙ turns_at.1)

-- a game without a stop leaves the world after all rounds
left_without_stop : (end : World) → EndsAt counting 7 2 0 pair [] None end → (turns_in 1 end ≡ 2) × (turns_in 2 end ≡ 2)
left_without_stop end ends = (ap (turns_in 1) ends.1 ∙ turns_at.2, ap (turns_in 2) ends.1 ∙ turns_at.3)
