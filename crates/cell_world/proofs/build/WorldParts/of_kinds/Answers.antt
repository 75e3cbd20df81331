use Rattle.std.proofs.Common.{◌≡◌, ℕ, ◌+◌, ◌*◌, ◌<◌, ◌≤◌, List, [], ◌∷◌, ◌++◌, length, get_or, drop, sym, ◌∙◌, ap, append_assoc, append-nil, length-append, arith}
use Rattle.std.proofs.lemmas.List.{drop_all, drop_more}
use Rattle.std.specs.Prelude.{vec_len}
use Rattle.hex_geometry.specs.RowOrder.{pos_at}
use Rattle.cell_world.specs.declared.body.Body.{Body}
use Rattle.cell_world.specs.declared.kind.Kind.{Kind}
use Rattle.cell_world.specs.declared.tile.Tile.{Tile}
use Rattle.cell_world.specs.Cell.{one_if}
use Rattle.cell_world.specs.Opening.{hill_count, is_hill, opening_cell}
use Rattle.cell_world.specs.Inner.Stored.{hill_of, new_bodies, opening_bodies, opening_tiles, tile_of}
use Rattle.cell_world.proofs.OpeningStores.{length-new_bodies}
use Rattle.cell_world.proofs.build.WorldParts.of_kinds.Invariants.{IsBegun}
use Rattle.cell_world.proofs.build.WorldParts.of_kinds.Goals as goal

-- nothing is done yet
begun-none : (width : ℕ) (kinds : List Kind) (tiles : List Tile) (bodies : List Body) → tiles ≡ [] → bodies ≡ [] → IsBegun width kinds 0 tiles bodies
begun-none width kinds tiles bodies no_tiles no_bodies = record {
  tiles_done = ap (λ (l : List Tile). l ++ opening_tiles (length bodies) kinds) no_tiles ∙ ap (λ (l : List Body). opening_tiles (length l) kinds) no_bodies;
  bodies_done = ap (λ (l : List Body). l ++ opening_bodies width 0 kinds) no_bodies;
  numbered = ap length no_tiles;
  ids_done = omega (arith, ap length no_bodies);
}

-- one kind more is done
begun-more : (width i t n : ℕ) (kinds : List Kind) (d : Kind) (tiles more_tiles : List Tile) (bodies more_bodies : List Body) → i < length kinds → t ≡ length bodies → n ≡ length tiles → more_tiles ≡ tiles ++ tile_of (opening_cell t (get_or kinds i d)) ∷ []
    → more_bodies ≡ bodies ++ new_bodies (hill_of (get_or kinds i d)) (pos_at width n) → IsBegun width kinds i tiles bodies → IsBegun width kinds (i + 1) more_tiles more_bodies
begun-more width i t n kinds d tiles more_tiles bodies more_bodies inside ids places tiles_are bodies_are begun =
    let kind = get_or kinds i d in
    let rest = drop (i + 1) kinds in
    let split : drop i kinds ≡ kind ∷ rest = drop_more kinds i d inside in
    let longer : length more_bodies ≡ length bodies + one_if (is_hill kind) = ap length bodies_are ∙ length-append bodies (new_bodies (hill_of kind) (pos_at width n)) ∙ ap (λ (k : ℕ). length bodies + k) (length-new_bodies kind (pos_at width n)) in
    record {
      tiles_done =
          ap (λ (l : List Tile). l ++ opening_tiles (length more_bodies) rest) tiles_are
          ∙ append_assoc tiles (tile_of (opening_cell t kind) ∷ []) (opening_tiles (length more_bodies) rest)
          ∙ ap (λ (k : ℕ). tiles ++ tile_of (opening_cell t kind) ∷ opening_tiles k rest) longer
          ∙ ap (λ (k : ℕ). tiles ++ tile_of (opening_cell k kind) ∷ opening_tiles (length bodies + one_if (is_hill kind)) rest) ids
          ∙ ap (λ (l : List Kind). tiles ++ opening_tiles (length bodies) l) (sym split)
          ∙ begun.tiles_done;
      bodies_done =
          ap (λ (l : List Body). l ++ opening_bodies width (i + 1) rest) bodies_are
          ∙ append_assoc bodies (new_bodies (hill_of kind) (pos_at width n)) (opening_bodies width (i + 1) rest)
          ∙ ap (λ (k : ℕ). bodies ++ (new_bodies (hill_of kind) (pos_at width k) ++ opening_bodies width (i + 1) rest)) (places ∙ begun.numbered)
          ∙ ap (λ (l : List Kind). bodies ++ opening_bodies width i l) (sym split)
          ∙ begun.bodies_done;
      numbered = ap length tiles_are ∙ length-append tiles (tile_of (opening_cell t kind) ∷ []) ∙ ap (λ (k : ℕ). k + 1) begun.numbered;
      ids_done = omega (arith, longer, ap hill_count split, begun.ids_done);
    }

-- all kinds are done
begun-tiles : (width i : ℕ) (kinds : List Kind) (tiles : List Tile) (bodies : List Body) → length kinds ≤ i → IsBegun width kinds i tiles bodies → tiles ≡ opening_tiles 0 kinds
begun-tiles width i kinds tiles bodies done begun = sym (append-nil tiles) ∙ ap (λ (l : List Kind). tiles ++ opening_tiles (length bodies) l) (sym (drop_all i kinds done)) ∙ begun.tiles_done

begun-bodies : (width i : ℕ) (kinds : List Kind) (tiles : List Tile) (bodies : List Body) → length kinds ≤ i → IsBegun width kinds i tiles bodies → bodies ≡ opening_bodies width 0 kinds
begun-bodies width i kinds tiles bodies done begun = sym (append-nil bodies) ∙ ap (λ (l : List Kind). bodies ++ opening_bodies width i l) (sym (drop_all i kinds done)) ∙ begun.bodies_done

-- there is room for one more
begun-low : (width i n most : ℕ) (kinds : List Kind) (tiles : List Tile) (bodies : List Body) → i < length kinds → n ≡ length tiles → length kinds ≤ most → IsBegun width kinds i tiles bodies → n < most
begun-low width i n most kinds tiles bodies inside all low begun = omega (arith, begun.numbered)

begun-few : (width i t : ℕ) (kinds : List Kind) (tiles : List Tile) (bodies : List Body) → t ≡ length bodies → hill_count kinds ≤ 16384 → IsBegun width kinds i tiles bodies → t < 65535
begun-few width i t kinds tiles bodies all few begun = omega (arith, begun.ids_done)

pub loop-kind-init : goal.loop-kind-init
loop-kind-init c = begun-none c.args.width c.args.kinds.now _ _ c.in_ok-with_capacity.ensures.items c.new.ensures.items

pub loop-kind-preserved : goal.loop-kind-preserved
loop-kind-preserved c =
    let parts = c.loop-kind.parts in
    begun-more c.args.width c.loop-kind.kind-index (vec_len parts.bodies) (vec_len parts.tiles) c.args.kinds.now _ parts.tiles.items _ parts.bodies.items _ c.loop-kind-test.true parts.bodies.ok.0 parts.tiles.ok.0 c.in_ok-add.ensures.tiles c.in_ok-add.ensures.bodies c.loop-kind.invariant

pub add-requires-clause-low : goal.add-requires-clause-low
add-requires-clause-low c = begun-low c.args.width c.loop-kind.kind-index _ (c.args.width * 65536) c.args.kinds.now _ _ c.loop-kind-test.true c.loop-kind.parts.tiles.ok.0 c.requires.low c.loop-kind.invariant

pub add-requires-clause-few : goal.add-requires-clause-few
add-requires-clause-few c = begun-few c.args.width c.loop-kind.kind-index _ c.args.kinds.now _ _ c.loop-kind.parts.bodies.ok.0 c.requires.few c.loop-kind.invariant

pub returns-clause-tiles : goal.returns-clause-tiles
returns-clause-tiles c = begun-tiles c.args.width c.loop-kind.kind-index c.args.kinds.now _ _ c.loop-kind-test.false c.loop-kind.invariant

pub returns-clause-bodies : goal.returns-clause-bodies
returns-clause-bodies c = begun-bodies c.args.width c.loop-kind.kind-index c.args.kinds.now _ _ c.loop-kind-test.false c.loop-kind.invariant
