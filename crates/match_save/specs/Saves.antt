-- Games that can be saved, and what their saves are (this project's own).
use Rattle.std.specs.Prelude.{◌≡◌, ℕ, zero, suc, ◌≤◌, List, [], ◌∷◌, ◌++◌, length}
use Rattle.std.specs.List.{AllByRecursion}
use Rattle.ant_base.specs.Shelf.{longest}
use Rattle.ant_turn.specs.HillLaws.{hill_cells}
use Rattle.ant_turn.specs.Minds.{AreSound, Minds}
use Rattle.ant_turn.specs.Rounds.{after_rounds, start_of}
use Rattle.cell_world.specs.declared.cell.Cell.{Cell}
use Rattle.brain_read.specs.Forms.{HasBound}
use Rattle.cell_world.specs.declared.kind.Kind.{Kind}
use Rattle.cell_world.specs.Grid.{Grid, world_of}
use Rattle.cell_world.specs.Opening.{IsPlan, opening}
use Rattle.cell_world.specs.World.{World, area}
use Rattle.hex_geometry.specs.RowOrder.{pos_at}
use Rattle.match_run.specs.Counts.{totals_of}
use Rattle.match_run.specs.Game.{GameValue}
use Rattle.match_save.specs.Resumed.{IsOfGame}
use Rattle.match_save.specs.Saved.{IsSaved, SavedValue, save_text}

-- a game can be saved: it is at the end of a round, it began at place 0, a window has at most 16,384 turns, and its
-- world has as many ids as hill cells
pub record CanBeSaved (game : GameValue) : Type 0 where
  pub at_end : game.next ≡ 0
  pub from_start : game.first_place ≡ 0
  pub window : game.window ≤ 16384
  pub hills : hill_cells game.field.world.cells ≡ game.field.world.ids

-- the save of a game: its seed, its window, the rounds that are done, its place, the counts of its turns, its brains
-- and its world
abbrev pub save_of : GameValue → SavedValue
save_of game = record {
  seed = game.field.seed;
  window = game.window;
  round = game.done;
  place = game.field.place;
  totals = game.totals;
  minds = game.field.minds;
  world = game.field.world;
}

-- the first n cells of a world, in row order
abbrev pub cells_at : World → ℕ → List Cell
cells_at w zero = []
cells_at w (suc n) = cells_at w n ++ w.cells (pos_at w.width n) ∷ []

-- a world as its cells in row order
unfoldable pub grid_at : World → Grid
grid_at w = record { width = w.width; height = w.height; ids = w.ids; cells = cells_at w (area w) }

-- the save of a game by the rules, which starts in w at place 0, after this many rounds, in windows of this many turns
unfoldable pub saved_after : Minds → ℕ → ℕ → World → ℕ → SavedValue
saved_after minds seed window w rounds = record {
  seed = seed;
  window = window;
  round = rounds;
  place = (after_rounds minds seed (start_of w) rounds).place;
  totals = totals_of minds seed window (start_of w) rounds;
  minds = minds;
  world = grid_at (after_rounds minds seed (start_of w) rounds).world;
}

-- a game that starts on the opening world of some kinds and can be saved after this many rounds
pub record Starts (minds : Minds) (seed window rounds : ℕ) (grid : Grid) : Type 0 where
  pub kinds : List Kind
  pub plan : IsPlan grid.width grid.height kinds
  pub opened : grid ≡ opening grid.width grid.height kinds
  pub sound : AreSound minds
  pub red_bounds : AllByRecursion HasBound minds.red
  pub black_bounds : AllByRecursion HasBound minds.black
  pub seed_low : seed ≤ 4294967295
  pub few : 4 ≤ minds.sheet.surround
  pub many : minds.sheet.surround ≤ 6
  pub rest : minds.sheet.rest ≤ 255
  pub some : 1 ≤ window
  pub sized : window ≤ 16384
  pub short : rounds ≤ 1000000

-- the save of such a game is a save, and one of this game
abbrev pub GamesAreSaved : Type 0
GamesAreSaved = (minds : Minds) (seed window rounds : ℕ) (grid : Grid) → Starts minds seed window rounds grid
    → IsSaved (saved_after minds seed window (world_of grid) rounds)
    × IsOfGame (saved_after minds seed window (world_of grid) rounds) (world_of grid)

-- the text of every save has at most as many bytes as a file may have
abbrev pub SavesAreShort : Type 0
SavesAreShort = (s : SavedValue) → IsSaved s → length (save_text s) ≤ longest
