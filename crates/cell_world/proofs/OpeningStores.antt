-- The tiles and the bodies of an opening world, and how they read.
use Rattle.std.proofs.Common.{◌≡◌, ℕ, ◌+◌, ◌<◌, List, [], ◌∷◌, ◌++◌, length, map, Option, Some, refl, sym, ◌∙◌, ap, ap₂, subst, ◌≤◌, arith}
use Rattle.std.proofs.Math.Seq.{get_or-append_seam}
use Rattle.std.proofs.lemmas.List.{append_assoc, length-append, length-map, map-append}
use Rattle.hex_geometry.specs.declared.position.Pos.{Pos}
use Rattle.cell_world.specs.declared.ant.Ant.{Ant}
use Rattle.cell_world.specs.declared.ant.Colour.TheVariants.{Red, Black}
use Rattle.cell_world.specs.declared.body.Body.{Body}
use Rattle.cell_world.specs.declared.cell.Cell.{Cell}
use Rattle.cell_world.specs.declared.kind.Kind.{Kind}
use Rattle.cell_world.specs.declared.kind.Kind.TheVariants.{Rock, RedHill, BlackHill}
use Rattle.cell_world.specs.declared.tile.Tile.{Tile}
use Rattle.cell_world.specs.Cell.{rock, one_if}
use Rattle.cell_world.specs.Grid.{Grid}
use Rattle.cell_world.specs.Limits.{most_ants}
use Rattle.cell_world.specs.Opening.{floor, hill_count, is_hill, opening, opening_cell, opening_cells}
use Rattle.cell_world.specs.Inner.OpeningPlaces.{hill_places, opening_places}
use Rattle.cell_world.specs.Inner.Bodies.{IsKnown}
use Rattle.cell_world.specs.Inner.Stored.{ant_from, ant_named, cell_from, grid_from, hill_of, stored_id, nobody, new_bodies, new_body, no_body, opening_bodies, opening_tiles, stored_places}
use Rattle.hex_geometry.specs.RowOrder.{pos_at}
use Rattle.cell_world.proofs.Bodies.{occupant_id-of}
use Rattle.cell_world.proofs.OpeningPlaces.{length-opening_places}

-- the ant of an opening cell has the id that the cell gives
pub IsKnown-opening_cell : (ids t : ℕ) (kind : Kind) → t < ids → IsKnown ids (opening_cell t kind).ant
unfolding rock floor
IsKnown-opening_cell ids t RedHill below = below
IsKnown-opening_cell ids t BlackHill below = below
IsKnown-opening_cell ids t it below = tt

-- there is a body for each hill
pub length-new_bodies : (kind : Kind) (p : Pos) → length (new_bodies (hill_of kind) p) ≡ one_if (is_hill kind)
length-new_bodies Rock p = refl
length-new_bodies it p = refl

-- and it is where the hill is
stored_places-new_bodies : (kind : Kind) (p : Pos) → stored_places (new_bodies (hill_of kind) p) ≡ hill_places kind p
stored_places-new_bodies Rock p = refl
stored_places-new_bodies it p = refl

-- the bodies are where the ants begin
pub stored_places-opening : (width i : ℕ) (kinds : List Kind) → stored_places (opening_bodies width i kinds) ≡ opening_places width i kinds
stored_places-opening width i [] = refl
stored_places-opening width i (kind ∷ kinds) =
    map-append (λ (body : Body). body.place) (new_bodies (hill_of kind) (pos_at width i)) (opening_bodies width (i + 1) kinds)
    ∙ ap₂ ◌++◌ (stored_places-new_bodies kind (pos_at width i)) (stored_places-opening width (i + 1) kinds)

-- the ant of a cell is read from its body, which follows those of the ants before it
ant_named-opening_cell : (front rest : List Body) (kind : Kind) (p : Pos) → ant_named (front ++ (new_bodies (hill_of kind) p ++ rest)) (stored_id (opening_cell (length front) kind).ant) ≡ (opening_cell (length front) kind).ant
unfolding rock floor ant_named
ant_named-opening_cell front rest RedHill p = ap (λ (b : Body). Some (ant_from (length front) b)) (get_or-append_seam front (new_body Red p) rest no_body)
ant_named-opening_cell front rest BlackHill p = ap (λ (b : Body). Some (ant_from (length front) b)) (get_or-append_seam front (new_body Black p) rest no_body)
ant_named-opening_cell front rest it p = refl

-- the ant of the first of these kinds has an id that is in range, if all their ants have
IsKnown-early : (t : ℕ) (kind : Kind) (others : ℕ) → t + (one_if (is_hill kind) + others) ≤ nobody → IsKnown nobody (opening_cell t kind).ant
unfolding rock floor
IsKnown-early t RedHill others few = omega arith
IsKnown-early t BlackHill others few = omega arith
IsKnown-early t it others few = tt

-- the tiles read as the cells of the kinds, after the bodies of the ants before them
cells-read : (width i : ℕ) (kinds : List Kind) (front : List Body) → length front + hill_count kinds ≤ nobody → map (cell_from (front ++ opening_bodies width i kinds)) (opening_tiles (length front) kinds) ≡ opening_cells (length front) kinds
cells-read width i [] front few = refl
cells-read width i (kind ∷ kinds) front few =
    let here : List Body = new_bodies (hill_of kind) (pos_at width i) in
    let rest : List Body = opening_bodies width (i + 1) kinds in
    let with : Option Ant → Cell = λ o. record (opening_cell (length front) kind) { ant = o } in
    let count : length (front ++ here) ≡ length front + one_if (is_hill kind) = length-append front here ∙ ap (λ n. length front + n) (length-new_bodies kind (pos_at width i)) in
    let later : map (cell_from (front ++ (here ++ rest))) (opening_tiles (length (front ++ here)) kinds) ≡ opening_cells (length (front ++ here)) kinds =
    subst (λ bodies. map (cell_from bodies) (opening_tiles (length (front ++ here)) kinds) ≡ opening_cells (length (front ++ here)) kinds) (append_assoc front here rest) (cells-read width (i + 1) kinds (front ++ here) (omega arith)) in
    ap₂ ◌∷◌ (ap with (ap (ant_named (front ++ (here ++ rest))) (occupant_id-of (opening_cell (length front) kind).ant (IsKnown-early (length front) kind (hill_count kinds) few)) ∙ ant_named-opening_cell front rest kind (pos_at width i)))
    (subst (λ n. map (cell_from (front ++ (here ++ rest))) (opening_tiles n kinds) ≡ opening_cells n kinds) count later)

-- the tiles and the bodies of the kinds stand for their opening world
pub same_opening : (width height : ℕ) (kinds : List Kind) (tiles : List Tile) (bodies : List Body) → hill_count kinds ≤ most_ants → tiles ≡ opening_tiles 0 kinds → bodies ≡ opening_bodies width 0 kinds → grid_from width height tiles bodies ≡ opening width height kinds
unfolding opening
same_opening width height kinds tiles bodies few is_tiles is_bodies =
    let join : ℕ → List Cell → Grid = λ ids cells. record { width = width; height = height; ids = ids; cells = cells } in
    ap₂ (grid_from width height) is_tiles is_bodies
    ∙ ap₂ join
    (sym (length-map (opening_bodies width 0 kinds) (λ (body : Body). body.place)) ∙ ap length (stored_places-opening width 0 kinds) ∙ length-opening_places width 0 kinds)
    (cells-read width 0 kinds [] (omega arith))
