-- Looks at a game between its rounds (this project's own; what an ant is, is the task's biology).
use Rattle.std.specs.Prelude.{◌≡◌, ◌⊎◌, ℕ, ◌+◌, ◌*◌, ◌<◌, ◌≤◌, List, [], ◌∷◌, ◌++◌, Option, Some, None, drop, length, map, flat_map, ⊤}
use Rattle.std.specs.List.{range_with_len}
use Rattle.ant_turn.specs.Minds.{contest_minds}
use Rattle.brain_read.specs.declared.instr.Instr.{Instr}
use Rattle.cell_world.specs.Cell.{one_if}
use Rattle.cell_world.specs.declared.ant.Ant.{Ant}
use Rattle.cell_world.specs.declared.ant.Colour.{Colour}
use Rattle.cell_world.specs.declared.ant.Colour.TheVariants.{Red, Black}
use Rattle.cell_world.specs.Grid.{Grid, world_of}
use Rattle.cell_world.specs.World.{Cells, World, place_in}
use Rattle.hex_geometry.specs.Direction.{number_of}
use Rattle.hex_geometry.specs.declared.position.Pos.{Pos}
use Rattle.match_run.specs.Run.{most_rounds, world_after}
use Rattle.ants_c.specs.Played.{IsGame, game_score}
use Rattle.ants_c.specs.declared.ant.AntsAnt.{AntsAnt}
use Rattle.ants_c.specs.declared.score.AntsScore.{AntsScore}

-- a colour as C sees it
abbrev pub colour_number : Colour → ℕ
colour_number Red = 0
colour_number Black = 1

-- the ant at a position as C sees it; if there is none, a dead one
abbrev pub seen_at : Pos → Option Ant → AntsAnt
seen_at p None = record { state = 0; resting = 0; column = 0; row = 0; alive = 0; colour = 0; direction = 0; laden = 0 }
seen_at p (Some ant) = record {
  state = ant.state;
  resting = ant.resting;
  column = p.x;
  row = p.y;
  alive = 1;
  colour = colour_number ant.colour;
  direction = number_of ant.facing;
  laden = one_if ant.laden;
}

-- the ant at a place as C sees it; if it has no place, a dead one
abbrev pub seen_from : Cells → Option Pos → AntsAnt
seen_from cells None = seen_at (record { x = 0; y = 0 }) None
seen_from cells (Some p) = seen_at p (cells p).ant

-- the ant with an id as C sees it
abbrev pub seen_ant : World → ℕ → AntsAnt
seen_ant w t = seen_from w.cells (place_in w t)

-- the ants of all ids that were assigned, in order, as C sees them
abbrev pub seen_ants : World → List AntsAnt
seen_ants w = map (seen_ant w) (range_with_len 0 w.ids)

-- rounds from this one on, each above the one before it, and at most 1,000,000
abbrev pub AreRising : ℕ → List ℕ → Type 0
AreRising least [] = ⊤
AreRising least (round ∷ rounds) = (least ≤ round) × (round ≤ most_rounds) × AreRising (round + 1) rounds

-- the ants after each of these rounds, one round after the other
abbrev pub ants_after : (world : Grid) (red black : List Instr) (seed : ℕ) → List ℕ → List AntsAnt
ants_after world red black seed rounds =
    flat_map (λ round. seen_ants (world_after (contest_minds red black) seed (world_of world) round)) rounds

-- three texts are those of a game with this number of ids
pub record HasIds (world_text red_text black_text : List ℕ) (ids : ℕ) : Type 0 where
  pub world : Grid
  pub red : List Instr
  pub black : List Instr
  pub is_game : IsGame world_text red_text black_text world red black
  pub made : ids ≡ world.ids

-- After each round, its score and its ants were written at the front of the caller's rooms. What follows them is
-- unchanged.
pub record AreLooked (world_text red_text black_text : List ℕ) (seed : ℕ) (rounds : List ℕ)
    (scores new_scores : List AntsScore) (ants new_ants : List AntsAnt) (ids : ℕ) : Type 0 where
  pub game : HasIds world_text red_text black_text ids
  pub scored : new_scores
      ≡ map (λ round. game_score game.world game.red game.black round seed) rounds ++ drop (length rounds) scores
  pub seen : new_ants ≡ ants_after game.world game.red game.black seed rounds ++ drop (length rounds * ids) ants

-- the caller's rooms are too small for the scores or the ants of this many rounds
abbrev pub AreFew : ℕ → ℕ → List AntsScore → List AntsAnt → Type 0
AreFew rounds ids scores ants = (length scores < rounds) ⊎ (length ants < rounds * ids)
