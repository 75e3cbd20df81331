-- How many of some cells hold ants of a colour.
use Rattle.std.proofs.Common.{add-one, ◌≡◌, ℕ, suc, ◌+◌, ◌<◌, ◌≤◌, cond, Bool, true, false, nat_le, length, length-drop, slice_index_or, drop, List, [], ◌∷◌, sym, ap, ◌∙◌, arith}
use Rattle.std.proofs.Math.Seq.{drop-cons}
use Rattle.std.proofs.lemmas.Bool.{le-leb, lt-leb}
use Rattle.hex_geometry.specs.declared.position.Pos.{Pos}
use Rattle.hex_geometry.specs.Direction.{dir_of}
use Rattle.hex_geometry.specs.Neighbourhood.{neighbours_of}
use Rattle.hex_geometry.specs.Position.{IsInner, IsInside}
use Rattle.hex_geometry.proofs.Beside.{adjacent_pos_inside, neighbours_of_at, neighbours_of_length}
use Rattle.cell_world.specs.declared.ant.Colour.{Colour}
use Rattle.cell_world.specs.Cell.{is_ant_of, one_if}
use Rattle.cell_world.specs.World.{Cells}
use Rattle.cell_world.proofs.GridSums.{one_if-le_one}
use Rattle.ant_turn.specs.Kills.{ants_among}

-- the neighbour at a place of the list is inside where the position is not on the rim
pub neighbours_of-inside : {w h : ℕ} {p : Pos} (k : ℕ) (z : Pos) → IsInner w h p → k < 6 → IsInside w h (slice_index_or (neighbours_of p) k z)
neighbours_of-inside {w} {h} {p} k z inner below = rw (neighbours_of_at p k z below) (adjacent_pos_inside (dir_of k) inner)

-- a list with one more at the front, or without it
length-cond : (test : Bool) (p : Pos) (places : List Pos) → length (cond test (p ∷ places) places) ≡ one_if test + length places
length-cond true p places = omega arith
length-cond false p places = omega arith

-- one cell, and the rest
pub ants_among-cons : (cells : Cells) (colour : Colour) (p : Pos) (places : List Pos) → ants_among cells colour (p ∷ places) ≡ one_if (is_ant_of colour (cells p).ant) + ants_among cells colour places
ants_among-cons cells colour p places = length-cond (is_ant_of colour (cells p).ant) p _

-- at most all of them do
pub ants_among-le : (cells : Cells) (colour : Colour) (places : List Pos) → ants_among cells colour places ≤ length places
ants_among-le cells colour [] = omega arith
ants_among-le cells colour (p ∷ places) =
    let one : one_if (is_ant_of colour (cells p).ant) ≤ 1 = one_if-le_one (is_ant_of colour (cells p).ant) in
    omega (arith, ants_among-cons cells colour p places, ants_among-le cells colour places)

-- the cells from a place on: the cell there, and the rest
pub ants_among-drop : (cells : Cells) (colour : Colour) (places : List Pos) (k : ℕ) (z : Pos) → k < length places → ants_among cells colour (drop k places) ≡ one_if (is_ant_of colour (cells (slice_index_or places k z)).ant) + ants_among cells colour (drop (k + 1) places)
ants_among-drop cells colour places k z below =
    ap (ants_among cells colour) (drop-cons places k z below) ∙ ants_among-cons cells colour (slice_index_or places k z) (drop (suc k) places) ∙ ap (λ n. one_if (is_ant_of colour (cells (slice_index_or places k z)).ant) + ants_among cells colour (drop n places)) (sym (add-one k))

-- so far as many neighbours held none as may, and here is another: there are too few
pub ants_among-few : (surround : ℕ) (cells : Cells) (colour : Colour) (p : Pos) (k : ℕ) (z : Pos) → k < 6
    → ants_among cells colour (drop k (neighbours_of p)) + k + surround ≡ ants_among cells colour (neighbours_of p) + 6
    → is_ant_of colour (cells (slice_index_or (neighbours_of p) k z)).ant ≡ false
    → nat_le surround (ants_among cells colour (neighbours_of p)) ≡ false
ants_among-few surround cells colour p k z below count gap =
    let all : length (neighbours_of p) ≡ 6 = neighbours_of_length p in
    let here : k < length (neighbours_of p) = omega arith in
    let next = ants_among-drop cells colour (neighbours_of p) k z here in
    let none : one_if (is_ant_of colour (cells (slice_index_or (neighbours_of p) k z)).ant) ≡ 0 = ap one_if gap in
    let rest = ants_among-le cells colour (drop (k + 1) (neighbours_of p)) in
    lt-leb surround _ (omega (arith, next, none, rest, length-drop (k + 1) (neighbours_of p)))

-- no more neighbours held none than may: there are enough
pub ants_among-enough : (surround : ℕ) (cells : Cells) (colour : Colour) (p : Pos) (gaps : ℕ)
    → ants_among cells colour (drop 6 (neighbours_of p)) + 6 + gaps + surround ≡ ants_among cells colour (neighbours_of p) + 6
    → nat_le surround (ants_among cells colour (neighbours_of p)) ≡ true
ants_among-enough surround cells colour p gaps count = le-leb surround _ (omega arith)
