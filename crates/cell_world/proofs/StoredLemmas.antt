-- A grid read from tiles and bodies, when one tile changes and the ant of its cell moves.
use Rattle.std.proofs.Common.{◌≡◌, ◌≢◌, inl, inr, ℕ, ◌<◌, ◌*◌, List, length, map, get_or, set, cond, Option, Some, None, true, false, sym, ap, ap₂, ◌∙◌, subst}
use Rattle.std.proofs.lemmas.Bool.{cases_eq}
use Rattle.std.proofs.lemmas.List.{ext_get_or, get_or-map, get_or-set_other, get_or-set_same, length-map, length-set}
use Rattle.hex_geometry.specs.declared.position.Pos.{Pos}
use Rattle.hex_geometry.specs.Position.{IsInside}
use Rattle.cell_world.specs.declared.ant.Ant.{Ant}
use Rattle.cell_world.specs.declared.body.Body.{Body}
use Rattle.cell_world.specs.declared.cell.Cell.{Cell}
use Rattle.cell_world.specs.declared.tile.Tile.{Tile}
use Rattle.cell_world.specs.Cell.{rock, holds_id, is_ant}
use Rattle.cell_world.specs.Grid.{Grid, IsWorld, cell_in, world_of}
use Rattle.hex_geometry.proofs.RowLemmas.{index_of-early, index_of-pos_at}
use Rattle.hex_geometry.specs.RowOrder.{index_of, pos_at}
use Rattle.cell_world.specs.Inner.Index.{IsIndex}
use Rattle.cell_world.specs.Inner.Bodies.{IsMadeBody, Moved}
use Rattle.cell_world.specs.Inner.Stored.{ant_named, cell_from, grid_from, occupant_id, stored_places}
use Rattle.cell_world.specs.Valid.{CanSet}
use Rattle.cell_world.proofs.Bodies.{IsMadeBody-named, ant_named-stays, is_ant-named, is_id, is_id-true, places_of-moved}
use Rattle.cell_world.proofs.GridSums.{cell_in-pos_at}
use Rattle.cell_world.proofs.GridLemmas.{cell_in-inside}
use Rattle.cell_world.proofs.Places.{holds_id-inside}
use Rattle.cell_world.proofs.Sets.{IsIndex-set, IsWorld-set, grid_set}

module _ (width height : ℕ) (tiles : List Tile) (bodies : List Body) where
  -- the cell of a tile, by its number in row order
  cell_in-tile : (k : ℕ) (d : Tile) → length tiles ≡ width * height → k < length tiles → cell_in (grid_from width height tiles bodies) (pos_at width k) ≡ cell_from bodies (get_or tiles k d)
  cell_in-tile k d full early =
      cell_in-pos_at (grid_from width height tiles bodies) k (subst (λ n. k < n) full early) ∙ get_or-map (cell_from bodies) tiles k d rock early

  -- the cell of a tile, by its position
  pub cell_in-tile_at : (p : Pos) (d : Tile) → IsWorld (grid_from width height tiles bodies) → IsInside width height p → cell_in (grid_from width height tiles bodies) p ≡ cell_from bodies (get_or tiles (index_of width p) d)
  cell_in-tile_at p d world inside =
      let early : index_of width p < length tiles = subst (λ n. index_of width p < n) (length-map tiles (cell_from bodies)) (index_of-early (map (cell_from bodies) tiles) width height p world.full inside) in
      cell_in-inside (grid_from width height tiles bodies) p rock world.full inside ∙ get_or-map (cell_from bodies) tiles (index_of width p) d rock early

  -- the cell of a tile that was read at its number
  pub cell_in-tile_is : (p : Pos) (i : ℕ) (tile : Tile) → IsWorld (grid_from width height tiles bodies) → IsInside width height p → i ≡ index_of width p → tile ≡ get_or tiles i tile → cell_in (grid_from width height tiles bodies) p ≡ cell_from bodies tile
  cell_in-tile_is p i tile world inside at is = cell_in-tile_at p tile world inside ∙ ap (cell_from bodies) (sym (is ∙ ap (λ k. get_or tiles k tile) at))

  -- its id was made
  pub tile-made : (p : Pos) (i : ℕ) (tile : Tile) → IsWorld (grid_from width height tiles bodies) → IsInside width height p → i ≡ index_of width p → tile ≡ get_or tiles i tile → IsMadeBody (length bodies) (occupant_id tile.ant)
  tile-made p i tile world inside at is =
      IsMadeBody-named (length bodies) bodies (occupant_id tile.ant) (λ ant has. world.valid.known p ant (ap (λ (c : Cell). c.ant) (cell_in-tile_is p i tile world inside at is) ∙ has))

  -- an ant that a cell holds is read from its body
  pub ant-read : (t : ℕ) (p : Pos) (d : Tile) → IsWorld (grid_from width height tiles bodies) → holds_id t (cell_in (grid_from width height tiles bodies) p) ≡ true →
      occupant_id (get_or tiles (index_of width p) d).ant ≡ Some t × ((cell_in (grid_from width height tiles bodies) p).ant ≡ ant_named bodies (Some t))
  ant-read t p d world holds =
      let inside : IsInside width height p = holds_id-inside (world_of (grid_from width height tiles bodies)) t p world.valid holds in
      let content = cell_in-tile_at p d world inside in
      let named : occupant_id (get_or tiles (index_of width p) d).ant ≡ Some t =
      is_id-true t (occupant_id (get_or tiles (index_of width p) d).ant) (sym (is_ant-named t bodies (occupant_id (get_or tiles (index_of width p) d).ant)) ∙ ap (holds_id t) (sym content) ∙ holds) in
      (named, ap (λ (c : Cell). c.ant) content ∙ ap (ant_named bodies) named)

  -- what a change of one tile comes to
  pub record Changed (p : Pos) (tile : Tile) (new : List Body) (cell : Cell) : Type 0 where
    pub grid : grid_from width height (set tiles (index_of width p) tile) new ≡ grid_set (grid_from width height tiles bodies) p cell
    pub world : IsWorld (grid_from width height (set tiles (index_of width p) tile) new)
    pub index : IsIndex (grid_from width height (set tiles (index_of width p) tile) new) (stored_places new)

  module _ {p : Pos} {before : Option ℕ} {cell : Cell} {room : ℕ} {new : List Body}
      (world : IsWorld (grid_from width height tiles bodies))
      (can : CanSet (world_of (grid_from width height tiles bodies)) room p cell)
      (moved : Moved bodies new p before cell.ant) where
    -- there is a tile for each cell
    full : length tiles ≡ width * height
    full = sym (length-map tiles (cell_from bodies)) ∙ world.full

    -- a tile of another cell reads as before
    tile-stays : (k : ℕ) (d : Tile) → k < length tiles → k ≢ index_of width p → cell_from new (get_or tiles k d) ≡ cell_from bodies (get_or tiles k d)
    tile-stays k d early apart =
        let content = cell_in-tile k d full early in
        let made : IsMadeBody (length bodies) (occupant_id (get_or tiles k d).ant) =
        IsMadeBody-named (length bodies) bodies (occupant_id (get_or tiles k d).ant) (λ ant is. world.valid.known (pos_at width k) ant (ap (λ (c : Cell). c.ant) content ∙ is)) in
        let other : (ant : Ant) → cell.ant ≡ Some ant → is_id ant.id (occupant_id (get_or tiles k d).ant) ≡ false = λ ant is.
        sym (is_ant-named ant.id bodies (occupant_id (get_or tiles k d).ant))
        ∙ ap (holds_id ant.id) (sym content)
        ∙ can.ant_nowhere_else ant is (pos_at width k) (λ e. apart (sym (index_of-pos_at width k) ∙ ap (index_of width) e)) in
        let with : Option Ant → Cell = λ o. record (cell_from bodies (get_or tiles k d)) { ant = o } in
        ap with (ant_named-stays moved (occupant_id (get_or tiles k d).ant) made other)

    -- all cells are as before, but the one
    cells-set : (tile : Tile) → cell_from new tile ≡ cell → map (cell_from new) (set tiles (index_of width p) tile) ≡ set (map (cell_from bodies) tiles) (index_of width p) cell
    cells-set tile reads =
        let i : ℕ = index_of width p in
        let early : i < length tiles = subst (λ n. i < n) (length-map tiles (cell_from bodies)) (index_of-early (map (cell_from bodies) tiles) width height p world.full can.inside) in
        ext_get_or rock (map (cell_from new) (set tiles i tile)) (set (map (cell_from bodies) tiles) i cell)
        (length-map (set tiles i tile) (cell_from new) ∙ length-set tiles i tile ∙ sym (length-map tiles (cell_from bodies)) ∙ sym (length-set (map (cell_from bodies) tiles) i cell))
        λ k below.
        let within : k < length (set tiles i tile) = subst (λ n. k < n) (length-map (set tiles i tile) (cell_from new)) below in
        let here : k < length tiles = subst (λ n. k < n) (length-set tiles i tile) within in
        get_or-map (cell_from new) (set tiles i tile) k tile rock within
        ∙ elim (cases_eq k i) [
          | inl same ↦
              ap (λ j. cell_from new (get_or (set tiles i tile) j tile)) same
              ∙ ap (cell_from new) (get_or-set_same tiles i tile tile early)
              ∙ reads
              ∙ sym (get_or-set_same (map (cell_from bodies) tiles) i cell rock (subst (λ n. i < n) (sym (length-map tiles (cell_from bodies))) early))
              ∙ ap (λ j. get_or (set (map (cell_from bodies) tiles) i cell) j rock) (sym same)
          | inr apart ↦
              ap (cell_from new) (get_or-set_other tiles i k tile tile apart)
              ∙ tile-stays k tile here apart
              ∙ sym (get_or-map (cell_from bodies) tiles k tile rock here)
              ∙ sym (get_or-set_other (map (cell_from bodies) tiles) i k cell rock apart)
        ]

    -- a tile that reads as the new cell, among the bodies after its ant moved, makes the changed world
    pub stored-set : (tile : Tile) → IsIndex (grid_from width height tiles bodies) (stored_places bodies) → (cell_in (grid_from width height tiles bodies) p).ant ≡ ant_named bodies before → cell_from new tile ≡ cell → Changed p tile new cell
    stored-set tile index was reads =
        let g : Grid = grid_from width height tiles bodies in
        let with : ℕ → List Cell → Grid = λ n cells. record { width = width; height = height; ids = n; cells = cells } in
        let same : grid_from width height (set tiles (index_of width p) tile) new ≡ grid_set g p cell = ap₂ with moved.all_ids (cells-set tile reads) in
        let long : length (stored_places new) ≡ length (stored_places bodies) = length-map new (λ (b : Body). b.place) ∙ moved.all_ids ∙ sym (length-map bodies (λ (b : Body). b.place)) in
        let names : (t : ℕ) → is_id t before ≡ holds_id t (cell_in g p) = λ t. sym (is_ant-named t bodies before) ∙ ap (is_ant t) (sym was) in
        record {
          grid = same;
          world = subst IsWorld (sym same) (IsWorld-set g p cell room world can);
          index = subst (λ h. IsIndex h (stored_places new)) (sym same)
              (IsIndex-set g p cell room (stored_places bodies) (stored_places new) world index can long λ t none made.
              places_of-moved moved t none (subst (λ n. t < n) (length-map bodies (λ (b : Body). b.place)) made)
              ∙ ap (λ b. cond (is_ant t cell.ant) (Some p) (cond b None (get_or (stored_places bodies) t none))) (names t));
        }
