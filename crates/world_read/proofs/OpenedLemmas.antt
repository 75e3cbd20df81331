-- The kinds of an opening world are those that it was built of.
use Rattle.std.proofs.Common.{◌≡◌, ℕ, ◌+◌, ◌≤◌, eqb, List, [], ◌∷◌, length, map, get_or, refl, sym, ◌∙◌, ap, ap₂, subst, take, lit≤, inl, inr, arith}
use Rattle.std.proofs.Math.ListN.{get_or-map}
use Rattle.std.proofs.lemmas.Bool.{cases_lt, cond-false, ne_eqb}
use Rattle.std.proofs.lemmas.List.{get_or_past}
use Rattle.std.proofs.lemmas.List.Elements.{All-head, All-tail}
use Rattle.std.specs.List.{All}
use Rattle.hex_geometry.specs.declared.position.Pos.{Pos}
use Rattle.hex_geometry.specs.Position.{IsInside}
use Rattle.cell_world.specs.declared.cell.Cell.{Cell}
use Rattle.cell_world.specs.declared.kind.Kind.{Kind}
use Rattle.cell_world.specs.declared.kind.Kind.TheVariants.{Rock, Clear, Food}
use Rattle.cell_world.specs.Cell.{rock, one_if}
use Rattle.cell_world.specs.Grid.{Grid, IsWorld, cell_in, world_of}
use Rattle.hex_geometry.specs.RowOrder.{index_of}
use Rattle.cell_world.specs.Opening.{IsFed, floor, hill_count, is_hill, opening, opening_cell, opening_cells}
use Rattle.cell_world.proofs.GridLemmas.{cell_in-beyond, cell_in-column, cell_in-inside}
use Rattle.cell_world.proofs.Openings.{get_or-opening_cells}
use Rattle.world_read.specs.Opened.{IsOpeningWorld, kind_of_cell, kinds_of}

-- the kind of the cell of a kind
kind_of_cell-opening : (t : ℕ) (kind : Kind) → IsFed kind → kind_of_cell (opening_cell t kind) ≡ kind
unfolding rock floor
kind_of_cell-opening t (Food n) fed = cond-false (eqb n 0) Clear (Food n) (ne_eqb n 0 (λ e. omega (arith, fed.0)))
kind_of_cell-opening t it fed = refl

kinds_of-cells : (t : ℕ) (kinds : List Kind) → All IsFed kinds → map kind_of_cell (opening_cells t kinds) ≡ kinds
kinds_of-cells t [] fed = refl
kinds_of-cells t (kind ∷ kinds) fed =
    ap₂ (λ k ks. k ∷ ks) (kind_of_cell-opening t kind (All-head IsFed kind kinds fed)) (kinds_of-cells (t + one_if (is_hill kind)) kinds (All-tail IsFed kind kinds fed))

-- the kinds of an opening world are those that it was built of
pub kinds_of-opening : (width height : ℕ) (kinds : List Kind) → All IsFed kinds → kinds_of (opening width height kinds) ≡ kinds
unfolding opening
kinds_of-opening width height kinds fed = kinds_of-cells 0 kinds fed

-- the kind of the cell at a position is the one with its number
pub kinds_of-at : (g : Grid) (p : Pos) → IsWorld g → IsInside g.width g.height p → kind_of_cell ((world_of g).cells p) ≡ get_or (kinds_of g) (index_of g.width p) Rock
unfolding rock
kinds_of-at g p world inside =
    ap kind_of_cell (cell_in-inside g p rock world.full inside) ∙ sym (get_or-map kind_of_cell g.cells (index_of g.width p) rock)

food-opening_cell : (t : ℕ) (kind : Kind) → IsFed kind → (opening_cell t kind).food ≤ 9
unfolding rock floor
food-opening_cell t (Food n) fed = fed.1
food-opening_cell t it fed = lit≤ tt

IsFed-at : (kinds : List Kind) (i : ℕ) → All IsFed kinds → IsFed (get_or kinds i Rock)
IsFed-at kinds i fed = elim (cases_lt i (length kinds)) [ inl early ↦ fed i Rock early | inr past ↦ subst IsFed (sym (get_or_past kinds i Rock past)) tt ]

food-opening : (width height : ℕ) (kinds : List Kind) (p : Pos) → All IsFed kinds → (cell_in (opening width height kinds) p).food ≤ 9
unfolding opening
food-opening width height kinds p fed =
    let g = opening width height kinds in
    let i = index_of width p in
    elim (cases_lt p.x width) [
      | inl column ↦ subst (λ (cell : Cell). cell.food ≤ 9) (sym (cell_in-column g p column ∙ get_or-opening_cells 0 kinds i)) (food-opening_cell (0 + hill_count (take i kinds)) (get_or kinds i Rock) (IsFed-at kinds i fed))
      | inr beyond ↦ subst (λ (cell : Cell). cell.food ≤ 9) (sym (cell_in-beyond g p beyond)) (food-opening_cell 0 Rock tt)
    ]

-- the food on a cell of an opening world is one digit
pub food-begins : (g : Grid) → IsOpeningWorld g → (p : Pos) → (cell_in g p).food ≤ 9
food-begins g begins p = subst (λ (w : Grid). (cell_in w p).food ≤ 9) (sym begins.is) (food-opening g.width g.height begins.kinds p begins.plan.fed)
