-- A world without an ant.
use Rattle.std.proofs.Common.{◌≡◌, ℕ, zero, suc, ◌<◌, Bool, true, false, cond, ltb, List, [], ◌∷◌, length, map, get_or, Option, None, replicate, refl, sym, ap, ◌∙◌, subst, arith}
use Rattle.std.specs.List.{AllByRecursion}
use Rattle.hex_geometry.specs.declared.position.Pos.{Pos}
use Rattle.hex_geometry.specs.RowOrder.{index_of}
use Rattle.cell_world.specs.declared.body.Body.{Body}
use Rattle.cell_world.specs.declared.cell.Cell.{Cell}
use Rattle.cell_world.specs.declared.tile.Tile.{Tile}
use Rattle.cell_world.specs.Cell.{holds_id, is_ant, rock}
use Rattle.cell_world.specs.Grid.{Grid, IsGround, cell_in, world_of}
use Rattle.cell_world.specs.Inner.Index.{IsIndex}
use Rattle.cell_world.specs.Inner.Stored.{ant_named, cell_from, grid_from, no_body, stored_places, tile_of}
use Rattle.cell_world.proofs.Places.{place_in-nowhere}

-- a cell without an ant is what its tile stands for
cell_again : (bodies : List Body) (cell : Cell) → cell.ant ≡ None → cell_from bodies (tile_of cell) ≡ cell
unfolding ant_named
cell_again bodies cell empty =
    subst (λ (ant : Option _). cell_from bodies (tile_of (record cell { ant = ant })) ≡ record cell { ant = ant }) (sym empty) refl

-- and so are all cells of a list
cells_again : (bodies : List Body) (cells : List Cell) → AllByRecursion (λ (cell : Cell). cell.ant ≡ None) cells → map (cell_from bodies) (map tile_of cells) ≡ cells
cells_again bodies [] empty = refl
cells_again bodies (cell ∷ cells) empty =
    ap (λ c. c ∷ map (cell_from bodies) (map tile_of cells)) (cell_again bodies cell empty.0) ∙ ap (λ l. cell ∷ l) (cells_again bodies cells empty.1)

-- there are as many dead bodies as ids
length-dead : (ids : ℕ) → length (replicate ids no_body) ≡ ids
length-dead zero = refl
length-dead (suc ids) = ap suc (length-dead ids)

-- the grid of the tiles of cells without an ant, and of as many dead bodies as ids
pub same_ground : (g : Grid) (tiles : List Tile) (bodies : List Body) → IsGround g → tiles ≡ map tile_of g.cells → bodies ≡ replicate g.ids no_body → grid_from g.width g.height tiles bodies ≡ g
same_ground g tiles bodies ground is_tiles is_bodies =
    ap (λ l. grid_from g.width g.height l bodies) is_tiles
    ∙ ap (λ l. grid_from g.width g.height (map tile_of g.cells) l) is_bodies
    ∙ ap (λ (n : ℕ). record { width = g.width; height = g.height; ids = n; cells = map (cell_from (replicate g.ids no_body)) (map tile_of g.cells) }) (length-dead g.ids)
    ∙ ap (λ (cells : List Cell). record { width = g.width; height = g.height; ids = g.ids; cells = cells }) (cells_again (replicate g.ids no_body) g.cells ground.empty)

-- no cell of a list without an ant holds one
nobody_at : (t : ℕ) (cells : List Cell) (i : ℕ) → AllByRecursion (λ (cell : Cell). cell.ant ≡ None) cells → holds_id t (get_or cells i rock) ≡ false
unfolding rock
nobody_at t (cell ∷ cells) zero empty = ap (is_ant t) empty.0
nobody_at t (cell ∷ cells) (suc i) empty = nobody_at t cells i empty.1
nobody_at t it that empty = refl

-- no position of a grid without an ant holds one
nobody : (g : Grid) (t : ℕ) → IsGround g → (p : Pos) → holds_id t (cell_in g p) ≡ false
unfolding cell_in rock
nobody g t ground p = go (ltb p.x g.width) where
  go : (b : Bool) → holds_id t (cond b (get_or g.cells (index_of g.width p) rock) rock) ≡ false
  go true = nobody_at t g.cells (index_of g.width p) ground.empty
  go false = refl

-- the place of a dead body
dead_place : (ids t : ℕ) (other : Option Pos) → t < ids → get_or (stored_places (replicate ids no_body)) t other ≡ None
unfolding no_body
dead_place zero t other below = absurd (let wrong : ⊥ = omega arith in wrong)
dead_place (suc ids) zero other below = refl
dead_place (suc ids) (suc t) other below = dead_place ids t other (omega arith)

-- there are as many places as ids
length-dead_places : (ids : ℕ) → length (stored_places (replicate ids no_body)) ≡ ids
length-dead_places zero = refl
length-dead_places (suc ids) = ap suc (length-dead_places ids)

-- dead bodies are nowhere, as the cells have it
pub IsIndex-ground : (g : Grid) → IsGround g → IsIndex g (stored_places (replicate g.ids no_body))
IsIndex-ground g ground = record {
  all_ids = length-dead_places g.ids;
  agrees = λ t other below. dead_place g.ids t other below ∙ sym (place_in-nowhere (world_of g) t (nobody g t ground));
}
