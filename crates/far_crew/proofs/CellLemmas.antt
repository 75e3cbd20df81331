-- Cells that are equal, whole.
use Rattle.std.proofs.Common.{◌≡◌, ◌<◌, ◌≤◌, ◌*◌, Bool, true, false, length, Option, Some, None, refl, sym, ap, ◌∙◌, subst, arith}
use Rattle.std.specs.Prelude.{◌↔◌, not}
use Rattle.std.specs.Option.{is_some}
use Rattle.std.proofs.lemmas.Bool.{both_ways, false≢true, not-false, not-true}
use Rattle.std.proofs.lemmas.List.{get_or_past}
use Rattle.std.proofs.Math.Nat.{mul_comm}
use Rattle.std.proofs.lemmas.Nat.{mul-le}
use Rattle.hex_geometry.specs.declared.position.Pos.{Pos}
use Rattle.hex_geometry.specs.RowOrder.{index_of}
use Rattle.cell_world.specs.declared.cell.Cell.{Cell}
use Rattle.cell_world.specs.declared.part.Part.{Part}
use Rattle.cell_world.specs.declared.part.Part.TheVariants.{Who}
use Rattle.cell_world.specs.declared.part.Parts.{Parts}
use Rattle.cell_world.specs.Cell.{rock}
use Rattle.cell_world.specs.Grid.{Grid, IsWorld, world_of}
use Rattle.cell_world.specs.Parts.{Agree, IsDifference, has_part, part}
use Rattle.cell_world.proofs.GridLemmas.{cell_in-beyond, cell_in-column}
use Rattle.cell_world.proofs.Patches.{same_parts}
use Rattle.far_crew.specs.Inner.Cells.{all_parts}

-- right of the world there is rock
pub cell_right : (g : Grid) (p : Pos) → g.width ≤ p.x → (world_of g).cells p ≡ rock
cell_right g p beyond = cell_in-beyond g p beyond

-- and below it
pub cell_below : (g : Grid) (p : Pos) → IsWorld g → p.x < g.width → g.height ≤ p.y → (world_of g).cells p ≡ rock
cell_below g p is column beyond =
    let rows : g.height * g.width ≤ p.y * g.width = mul-le g.height g.width p.y g.width beyond (omega arith) in
    let late : length g.cells ≤ index_of g.width p = omega (arith, is.full, mul_comm g.width g.height) in
    cell_in-column g p column ∙ get_or_past g.cells (index_of g.width p) rock late

has_all : (k : Part) → has_part all_parts k ≡ true
has_all Who = refl
has_all it = refl

-- cells of one ground and hill that differ in no part are equal
pub same_cell : (c d : Cell) → c.rocky ≡ d.rocky → c.hill ≡ d.hill → Agree all_parts c d → c ≡ d
same_cell c d rocky hill agree = same_parts c d (λ k. agree k (has_all k)) rocky hill

-- cells of another ground or hill aren't
pub ground_differs : (c d : Cell) (first : Bool) → first ≡ false → (first ≡ true) ↔ ((c.rocky ≡ d.rocky) × (c.hill ≡ d.hill)) → (false ≡ true) ↔ (c ≡ d)
ground_differs c d first failed is = (
  λ never. absurd (false≢true never),
  λ same. absurd (false≢true (sym failed ∙ is.1 (ap (λ (e : Cell). e.rocky) same, ap (λ (e : Cell). e.hill) same))),
)

-- and whether they are is whether there is a part in which they differ
pub difference_test : (c d : Cell) (o : Option Part) (parts : Parts) (first test : Bool) → parts ≡ all_parts → first ≡ true → (first ≡ true) ↔ ((c.rocky ≡ d.rocky) × (c.hill ≡ d.hill)) → IsDifference parts c d o → is_some o ≡ not test → (test ≡ true) ↔ (c ≡ d)
difference_test c d None parts first test every held is differ tested =
    let both = is.0 held in
    (λ _. same_cell c d both.0 both.1 (subst (λ p. Agree p c d) every differ), λ _. not-false test (sym tested))
difference_test c d (Some k) parts first test every held is differ tested =
    (λ now. absurd (both_ways test (not-true test (sym tested)) now), λ same. absurd (differ.1 (ap (part k) same)))
