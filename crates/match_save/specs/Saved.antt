-- What a contract sees of a save, its text, and the verdict on a text (this project's own).
use Rattle.std.specs.Prelude.{◌≡◌, ℕ, ◌*◌, List, [], ◌∷◌, ◌++◌, map, Option, Some, None, zero, suc, if◌then◌else◌}
use Rattle.hex_geometry.specs.declared.position.Pos.{Pos}
use Rattle.ant_turn.specs.Minds.{Minds}
use Rattle.cell_world.specs.declared.ant.Ant.{Ant}
use Rattle.cell_world.specs.declared.ant.Colour.{Colour}
use Rattle.cell_world.specs.declared.ant.Colour.TheVariants.{Red, Black}
use Rattle.cell_world.specs.declared.ant.PlacedAnt.{PlacedAnt}
use Rattle.cell_world.specs.declared.cell.Cell.{Cell}
use Rattle.cell_world.specs.Grid.{Grid, cell_in, world_of}
use Rattle.cell_world.specs.World.{place_in}
use Rattle.dump_print.specs.declared.totals.Totals.{Totals}
use Rattle.match_save.specs.Draft.{Draft, IsInForm}
use Rattle.match_save.specs.declared.head.Head.{Head}
use Rattle.match_save.specs.declared.soil.Soil.{Soil}
use Rattle.match_save.specs.declared.soil.Soil.TheVariants.{Rock, Clear, RedHill, BlackHill}
use Rattle.match_save.specs.State.{IsState, grid_of_draft, turns_of}
use Rattle.match_save.specs.Text.{draft_text}
use Rattle.match_save.specs.Verdict.{IsDraftText}

-- what a contract sees of a save: the seed, how many turns a window has, how many rounds are done, the place in the
-- stream, the counts of the turns, both brains with their sheet, and the world
pub record SavedValue : Type 0 where
  pub seed : ℕ
  pub window : ℕ
  pub round : ℕ
  pub place : ℕ
  pub totals : Totals
  pub minds : Minds
  pub world : Grid

-- the numbers of its first eight lines
abbrev pub head_of : SavedValue → Head
head_of s = record {
  seed = s.seed;
  surround = s.minds.sheet.surround;
  corpse = s.minds.sheet.corpse;
  rest = s.minds.sheet.rest;
  window = s.window;
  round = s.round;
  place = s.place;
  taken = s.totals.taken;
  redone = s.totals.redone;
  width = s.world.width;
  height = s.world.height;
}

-- the ground of a clear cell of this hill, if it belongs to one
abbrev pub soil_of_clear : Option Colour → Soil
soil_of_clear None = Clear
soil_of_clear (Some Red) = RedHill
soil_of_clear (Some Black) = BlackHill

-- the ground of a cell
abbrev pub soil_of_cell : Cell → Soil
soil_of_cell cell = if cell.rocky then Rock else soil_of_clear cell.hill

-- the ant of a cell at this place, if there is one
abbrev pub placed_at : Pos → Option Ant → List PlacedAnt
placed_at p None = []
placed_at p (Some ant) = record { place = p; ant = ant } ∷ []

-- the ant with an id, if it is alive
abbrev pub living_at : Grid → Option Pos → List PlacedAnt
living_at g None = []
living_at g (Some p) = placed_at p (cell_in g p).ant

-- the living ants among the first n ids, by rising id
abbrev pub living : Grid → ℕ → List PlacedAnt
living g zero = []
living g (suc n) = living g n ++ living_at g (place_in (world_of g) n)

-- what the lines of a save say of it
unfoldable pub draft_of : SavedValue → Draft
draft_of s = record {
  head = head_of s;
  red = s.minds.red;
  black = s.minds.black;
  soils = map soil_of_cell s.world.cells;
  red_marks = map (λ (cell : Cell). cell.red.set) s.world.cells;
  black_marks = map (λ (cell : Cell). cell.black.set) s.world.cells;
  foods = map (λ (cell : Cell). cell.food) s.world.cells;
  ants = living s.world s.world.ids;
}

-- the text of a save
unfoldable pub save_text : SavedValue → List ℕ
save_text s = draft_text (draft_of s)

-- what holds of every save: its lines are in their forms and describe a state of a game, whose world is its own
pub record IsSaved (s : SavedValue) : Type 0 where
  pub in_form : IsInForm (draft_of s)
  pub state : IsState (draft_of s)
  pub same : grid_of_draft (draft_of s) ≡ s.world
  pub turns : s.totals.turns ≡ s.world.ids * s.round

-- a text whose lines are a save's, but describe no state of a game
pub record IsNoState (text : List ℕ) : Type 0 where
  pub draft : Draft
  pub is : IsDraftText text draft
  pub wrong : IsState draft → ⊥

-- the text is that of this save
pub record IsSaveText (text : List ℕ) (s : SavedValue) : Type 0 where
  pub saved : IsSaved s
  pub is : text ≡ save_text s

-- the save that lines describe
unfoldable pub saved_of : Draft → SavedValue
saved_of d = record {
  seed = d.head.seed;
  window = d.head.window;
  round = d.head.round;
  place = d.head.place;
  totals = record { turns = turns_of d; taken = d.head.taken; redone = d.head.redone };
  minds = record {
    red = d.red;
    black = d.black;
    sheet = record { surround = d.head.surround; corpse = d.head.corpse; rest = d.head.rest };
  };
  world = grid_of_draft d;
}

-- the lines of a text are those of this save
pub record IsSaveLines (text : List ℕ) (s : SavedValue) : Type 0 where
  pub saved : IsSaved s
  pub are : IsDraftText text (draft_of s)
