-- A turn of an id, taken over any ground (the task's kinetics; the room is this project's own).
use Rattle.std.specs.Prelude.{◌≡◌, ℕ, ◌+◌, ◌≤◌}
use Rattle.cell_world.specs.Cell.{one_if}
use Rattle.cell_world.specs.Valid.{Valid}
use Rattle.cell_world.specs.World.{World, with_cells}
use Rattle.ant_random.specs.Stream.{SeedAndPlace}
use Rattle.ant_turn.specs.declared.turn.Deed.{Deed}
use Rattle.ant_turn.specs.Minds.{Minds, Fits}
use Rattle.ant_turn.specs.Turn.{turn}

-- the ground's world and the stream are as after the turn of t, and the deed says the rest; at most nine of the
-- ground's room are used, and each ant's state stays in its colour's brain
pub record TakesTurn (minds : Minds) (t : ℕ) (before after : World) (had left : ℕ) (s s' : SeedAndPlace)
    (deed : Deed) : Type 0 where
  pub world : after ≡ with_cells before (turn minds s.seed before s.place t).cells
  pub stream : s' ≡ record s { place = s.place + one_if (turn minds s.seed before s.place t).drew }
  pub drew : deed.drew ≡ (turn minds s.seed before s.place t).drew
  pub killed : deed.killed.items ≡ (turn minds s.seed before s.place t).killed
  pub room : had ≤ left + 9
  pub valid : Valid after
  pub fit : Fits after minds
