-- The cells of an opening world, by their numbers in row order.
use Rattle.std.proofs.Common.{◌≡◌, ℕ, suc, zero, ◌+◌, ◌<◌, ◌≤◌, true, List, [], ◌∷◌, length, get_or, take, Some, refl, ◌∙◌, ap, subst, arith}
use Rattle.std.proofs.lemmas.Bool.{false≢true, eqb-true, eq-eqb}
use Rattle.std.proofs.lemmas.List.{get_or-take, take-take}
use Rattle.cell_world.specs.declared.ant.Ant.{Ant}
use Rattle.cell_world.specs.declared.kind.Kind.{Kind}
use Rattle.cell_world.specs.declared.kind.Kind.TheVariants.{Rock, RedHill, BlackHill, Food}
use Rattle.cell_world.specs.Cell.{HasMarksOfSix, rock, cell_weight, holds_id, one_if}
use Rattle.cell_world.specs.Opening.{IsFed, floor, hill_count, is_hill, is_rock, opening_cell, opening_cells}

-- there is a cell for each kind
pub length-opening_cells : (t : ℕ) (kinds : List Kind) → length (opening_cells t kinds) ≡ length kinds
length-opening_cells t [] = refl
length-opening_cells t (kind ∷ kinds) = ap suc (length-opening_cells (t + one_if (is_hill kind)) kinds)

-- a cell is that of its kind, and its ant's id is the number of hill cells before it. Beyond the last there is rock
pub get_or-opening_cells : (t : ℕ) (kinds : List Kind) (i : ℕ) → get_or (opening_cells t kinds) i rock ≡ opening_cell (t + hill_count (take i kinds)) (get_or kinds i Rock)
get_or-opening_cells t [] i = refl
get_or-opening_cells t (kind ∷ kinds) zero =
    let same : t ≡ t + 0 = omega arith in ap (λ u. opening_cell u kind) same
get_or-opening_cells t (kind ∷ kinds) (suc i) =
    let same : t + one_if (is_hill kind) + hill_count (take i kinds) ≡ t + (one_if (is_hill kind) + hill_count (take i kinds)) = omega arith in
    get_or-opening_cells (t + one_if (is_hill kind)) kinds i ∙ ap (λ u. opening_cell u (get_or kinds i Rock)) same

-- rock has no markers
pub HasMarksOfSix-rock : HasMarksOfSix rock
unfolding rock
HasMarksOfSix-rock = record { red = omega arith; black = omega arith }

-- no marker is set on a cell of any kind
pub HasMarksOfSix-opening_cell : (t : ℕ) (kind : Kind) → HasMarksOfSix (opening_cell t kind)
unfolding floor
HasMarksOfSix-opening_cell t Rock = HasMarksOfSix-rock
HasMarksOfSix-opening_cell t it = record { red = omega arith; black = omega arith }

-- before a hill cell there are fewer hill cells than in all
pub hill_count-take : (kinds : List Kind) (i : ℕ) → is_hill (get_or kinds i Rock) ≡ true → hill_count (take i kinds) < hill_count kinds
hill_count-take [] i hill = absurd (false≢true hill)
hill_count-take (kind ∷ kinds) zero hill =
    let one : one_if (is_hill kind) ≡ 1 = ap one_if hill in omega arith
hill_count-take (kind ∷ kinds) (suc i) hill = omega (arith, hill_count-take kinds i hill)

-- before a later cell there are more hill cells than before an earlier hill cell
pub hill_count-later : (kinds : List Kind) (i j : ℕ) → i < j → is_hill (get_or kinds i Rock) ≡ true → hill_count (take i kinds) < hill_count (take j kinds)
hill_count-later kinds i j before hill =
    let le : i ≤ j = omega arith in
    let fewer = hill_count-take (take j kinds) i (ap is_hill (get_or-take j kinds i Rock before) ∙ hill) in
    subst (λ ks. hill_count ks < hill_count (take j kinds)) (take-take i j kinds le) fewer

-- a cell is rocky where its kind is rock
pub rocky-opening_cell : (t : ℕ) (kind : Kind) → (opening_cell t kind).rocky ≡ is_rock kind
unfolding rock floor
rocky-opening_cell t Rock = refl
rocky-opening_cell t it = refl

-- a rocky cell is bare
pub opening_cell-rocky : (t : ℕ) (kind : Kind) → is_rock kind ≡ true → opening_cell t kind ≡ rock
opening_cell-rocky t Rock rocky = refl
opening_cell-rocky t it rocky = absurd (false≢true rocky)

-- an ant stands on a hill cell and has the id that the cell gives
pub ant-opening_cell : (t : ℕ) (kind : Kind) (ant : Ant) → (opening_cell t kind).ant ≡ Some ant → (is_hill kind ≡ true) × (ant.id ≡ t)
unfolding rock floor
ant-opening_cell t RedHill ant is = (refl, cc)
ant-opening_cell t BlackHill ant is = (refl, cc)
ant-opening_cell t it ant is = absurd (cc)

-- the id that a cell holds is the one that it gives, and the cell is of a hill
pub holds_id-opening_cell : (u t : ℕ) (kind : Kind) → holds_id u (opening_cell t kind) ≡ true → (is_hill kind ≡ true) × (t ≡ u)
unfolding rock floor
holds_id-opening_cell u t RedHill holds = (refl, eqb-true t u holds)
holds_id-opening_cell u t BlackHill holds = (refl, eqb-true t u holds)
holds_id-opening_cell u t it holds = absurd (false≢true holds)

-- a hill cell holds the id that it gives
pub opening_cell-holds_id : (t : ℕ) (kind : Kind) → is_hill kind ≡ true → holds_id t (opening_cell t kind) ≡ true
unfolding rock floor
opening_cell-holds_id t RedHill hill = eq-eqb t t refl
opening_cell-holds_id t BlackHill hill = eq-eqb t t refl
opening_cell-holds_id t it hill = absurd (false≢true hill)

-- no cell weighs more than nine
pub cell_weight-opening_cell : (t : ℕ) (kind : Kind) → IsFed kind → cell_weight (opening_cell t kind) ≤ 9
unfolding rock floor cell_weight
cell_weight-opening_cell t (Food n) fed = omega (arith, fed.1)
cell_weight-opening_cell t it fed = omega arith
