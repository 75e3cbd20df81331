-- A turn that was watched.
use Rattle.std.specs.Prelude.{◌≡◌, ◌+◌, ◌<◌, IsTrue, ℕ, Bool, Some}
use Rattle.hex_geometry.specs.declared.position.Pos.{Pos}
use Rattle.ant_random.specs.Stream.{SeedAndPlace}
use Rattle.cell_world.specs.declared.ant.Ant.{Ant}
use Rattle.cell_world.specs.declared.score.Score.{Score}
use Rattle.cell_world.specs.Cell.{one_if}
use Rattle.cell_world.specs.Score.{score_of}
use Rattle.cell_world.specs.World.{World, place_in, with_cells}
use Rattle.ant_turn.specs.Minds.{Fits, Minds}
use Rattle.ant_turn.specs.Turn.{turn}
use Rattle.break_view.specs.Inner.Changes.{LooksSame}

-- the ant of an id is dead or rests
abbrev pub IsIdle : World → ℕ → Type 0
IsIdle w t = (p : Pos) (ant : Ant) → place_in w t ≡ Some p → (w.cells p).ant ≡ Some ant → 0 < ant.resting

-- the turn of an id led from the world w to the world v, and from one place of the stream to another; the score is
-- that of v; and where `alike` is true, breaks but those of states see both worlds alike
pub record TurnWatched (minds : Minds) (t : ℕ) (w v : World) (s s' : SeedAndPlace) (counted : Score)
    (alike : Bool) : Type 0 where
  pub world : v ≡ with_cells w (turn minds s.seed w s.place t).cells
  pub stream : s' ≡ record s { place = s.place + one_if (turn minds s.seed w s.place t).drew }
  pub fit : Fits v minds
  pub score : counted ≡ score_of v
  pub same : IsTrue alike → LooksSame w v
