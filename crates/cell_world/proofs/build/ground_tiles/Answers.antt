use Rattle.std.proofs.Common.{◌≡◌, ℕ, ◌+◌, ◌<◌, List, [], ◌∷◌, ◌++◌, None, length, get_or, drop, map, sym, ◌∙◌, ap, subst, append_assoc}
use Rattle.std.proofs.lemmas.List.{drop_more}
use Rattle.std.specs.List.{AllByRecursion}
use Rattle.cell_world.specs.declared.cell.Cell.{Cell}
use Rattle.cell_world.specs.declared.tile.Tile.{Tile}
use Rattle.cell_world.specs.Inner.Stored.{tile_of}
use Rattle.cell_world.proofs.build.ground_tiles.Invariants.{IsTiled}
use Rattle.cell_world.proofs.build.ground_tiles.Goals as goal

-- no ant is on the next cell, nor on those after it
empty-next : (cells : List Cell) (i : ℕ) (d : Cell) → i < length cells → AllByRecursion (λ (cell : Cell). cell.ant ≡ None) (drop i cells) → AllByRecursion (λ (cell : Cell). cell.ant ≡ None) (get_or cells i d ∷ drop (i + 1) cells)
empty-next cells i d inside empty = subst (AllByRecursion (λ (cell : Cell). cell.ant ≡ None)) (drop_more cells i d inside) empty

-- one cell more is done
tiled-more : (cells : List Cell) (i : ℕ) (d : Cell) (tiles more : List Tile) → i < length cells → more ≡ tiles ++ tile_of (get_or cells i d) ∷ [] → IsTiled cells i tiles → IsTiled cells (i + 1) more
tiled-more cells i d tiles more inside last tiled =
    let rest = drop (i + 1) cells in
    record {
      tiles_done =
          ap (λ (l : List Tile). l ++ map tile_of rest) last
          ∙ append_assoc tiles (tile_of (get_or cells i d) ∷ []) (map tile_of rest)
          ∙ ap (λ (l : List Cell). tiles ++ map tile_of l) (sym (drop_more cells i d inside))
          ∙ tiled.tiles_done;
      empty = (empty-next cells i d inside tiled.empty).1;
    }

pub loop-cell-preserved : goal.loop-cell-preserved
loop-cell-preserved c =
    tiled-more c.args.cells.now c.loop-cell.cell-index _ c.loop-cell.tiles.items c.push.new.self.items c.loop-cell-test.true (c.in_ok-push.ensures.items ∙ ap (λ (tile : Tile). c.loop-cell.tiles.items ++ tile ∷ []) c.ground_tile.ensures) c.loop-cell.invariant

pub ground_tile-requires : goal.ground_tile-requires
ground_tile-requires c = (empty-next c.args.cells.now c.loop-cell.cell-index _ c.loop-cell-test.true c.loop-cell.invariant.empty).0
