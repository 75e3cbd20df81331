-- Worlds into which ants are put one after another.
use Rattle.std.proofs.Common.{◌≡◌, ◌≢◌, ℕ, suc, ◌+◌, ◌*◌, ◌<◌, ◌≤◌, true, false, not, List, [], ◌∷◌, length, set, Option, Some, None, refl, sym, ◌∙◌, ap, subst, inl, inr, arith}
use Rattle.std.specs.List.{AllByRecursion}
use Rattle.std.proofs.lemmas.Bool.{and_parts, ne_eqb, not-true}
use Rattle.std.proofs.lemmas.List.{length-set}
use Rattle.hex_geometry.specs.declared.position.Pos.{Pos}
use Rattle.hex_geometry.specs.Position.{IsInside}
use Rattle.cell_world.specs.declared.ant.Ant.{Ant}
use Rattle.cell_world.specs.declared.ant.PlacedAnt.{PlacedAnt}
use Rattle.cell_world.specs.declared.cell.Cell.{Cell}
use Rattle.cell_world.specs.Cell.{ant_weight, cell_weight, holds_id, is_ant}
use Rattle.cell_world.specs.Grid.{Grid, IsWorld, cell_in, world_of}
use Rattle.hex_geometry.specs.RowOrder.{index_of, pos_at}
use Rattle.cell_world.specs.Limits.{most_weight}
use Rattle.cell_world.specs.Valid.{CanSet}
use Rattle.cell_world.specs.World.{World, put, weight}
use Rattle.cell_world.proofs.GridLemmas.{cell_in-column}
use Rattle.cell_world.proofs.GridSums.{cell_in-pos_at}
use Rattle.cell_world.proofs.Puts.{cases_pos, put_cell-other, put_cell-same}
use Rattle.cell_world.proofs.Sets.{grid_set, world_of-set}
use Rattle.cell_world.proofs.Weights.{weight-put}
use Rattle.match_save.specs.State.{StandApart, StandsAlone}
use Rattle.match_save.specs.Inner.AntPuts.{CanAllStand, CanStand, all_standing, is_free, is_nobody, standing, weight_of_ants}
use Rattle.match_save.proofs.WorldAgain.{same_list}

-- the cell with this ant on it
abbrev pub stood_on : Grid → PlacedAnt → Cell
stood_on g it = record (cell_in g it.place) { ant = Some it.ant }

-- the world with an ant at its place is the world with that cell set
pub standing-set : (g : Grid) (it : PlacedAnt) → it.place.x < g.width → standing g it ≡ grid_set g it.place (stood_on g it)
standing-set g it column = ap (λ (c : Cell). record g { cells = set g.cells (index_of g.width it.place) (record c { ant = Some it.ant }) }) (sym (cell_in-column g it.place column))

pub full-standing : (g : Grid) (it : PlacedAnt) → length g.cells ≡ g.width * g.height → length (standing g it).cells ≡ g.width * g.height
full-standing g it full = length-set g.cells (index_of g.width it.place) _ ∙ full

-- as a function of positions
pub world_of-standing : (g : Grid) (it : PlacedAnt) → length g.cells ≡ g.width * g.height → IsInside g.width g.height it.place → world_of (standing g it) ≡ put (world_of g) it.place (stood_on g it)
world_of-standing g it full inside = ap world_of (standing-set g it inside.column) ∙ world_of-set g it.place (stood_on g it) full inside

-- two grids of one world are one
pub same_grid : (g h : Grid) → length g.cells ≡ g.width * g.height → length h.cells ≡ h.width * h.height → world_of g ≡ world_of h → g ≡ h
same_grid g h full_g full_h same =
    let width : g.width ≡ h.width = ap (λ (w : World). w.width) same in
    let height : g.height ≡ h.height = ap (λ (w : World). w.height) same in
    let ids : g.ids ≡ h.ids = ap (λ (w : World). w.ids) same in
    let long : length g.cells ≡ length h.cells = full_g ∙ ap (λ n. n * g.height) width ∙ ap (λ n. h.width * n) height ∙ sym full_h in
    let cells : g.cells ≡ h.cells = same_list g.cells h.cells long (λ i below.
    sym (cell_in-pos_at g i (omega (arith, full_g)))
    ∙ ap (λ (w : World). w.cells (pos_at g.width i)) same
    ∙ ap (λ n. cell_in h (pos_at n i)) width
    ∙ cell_in-pos_at h i (omega (arith, full_h, long))) in
    ap (λ n. record { width = n; height = g.height; ids = g.ids; cells = g.cells }) width
    ∙ ap (λ n. record { width = h.width; height = n; ids = g.ids; cells = g.cells }) height
    ∙ ap (λ n. record { width = h.width; height = h.height; ids = n; cells = g.cells }) ids
    ∙ ap (λ l. record { width = h.width; height = h.height; ids = h.ids; cells = l }) cells

-- the place of an ant is inside
abbrev pub StandsInside : ℕ → ℕ → PlacedAnt → Type 0
StandsInside width height it = IsInside width height it.place

module _ (g : Grid) (full : length g.cells ≡ g.width * g.height) (it : PlacedAnt) (inside : IsInside g.width g.height it.place) where
  pub cell-here : cell_in (standing g it) it.place ≡ stood_on g it
  cell-here = ap (λ (w : World). w.cells it.place) (world_of-standing g it full inside) ∙ put_cell-same (cell_in g) it.place (stood_on g it)

  pub cell-other : (q : Pos) → it.place ≢ q → cell_in (standing g it) q ≡ cell_in g q
  cell-other q apart = ap (λ (w : World). w.cells q) (world_of-standing g it full inside) ∙ put_cell-other (cell_in g) it.place (stood_on g it) q apart

  -- an ant that can be elsewhere still can
  stand-later : (other : PlacedAnt) → other.place ≢ it.place → CanStand g other → CanStand (standing g it) other
  stand-later other apart can =
      let same = cell-other other.place (λ e. apart (sym e)) in
      record { clear = ap (λ (c : Cell). c.rocky) same ∙ can.clear; free = ap (λ (c : Cell). c.ant) same ∙ can.free; made = can.made }

  -- an ant that can be placed later is elsewhere, and could be before
  stand-before : (other : PlacedAnt) → CanStand (standing g it) other → (other.place ≢ it.place) × CanStand g other
  stand-before other can = (apart, record { clear = ap (λ (c : Cell). c.rocky) (sym same) ∙ can.clear; free = ap (λ (c : Cell). c.ant) (sym same) ∙ can.free; made = can.made }) where
    apart : other.place ≢ it.place
    apart e =
        let both : Some it.ant ≡ None = ap (λ (c : Cell). c.ant) (sym cell-here) ∙ ap (λ (p : Pos). (cell_in (standing g it) p).ant) (sym e) ∙ can.free in
        absurd (cc)

    same : cell_in (standing g it) other.place ≡ cell_in g other.place
    same = cell-other other.place (λ e. apart (sym e))

-- all ants that can stand, apart from each other, can stand one after another
pub can-all : (ants : List PlacedAnt) (g : Grid) → length g.cells ≡ g.width * g.height → AllByRecursion (StandsInside g.width g.height) ants → AllByRecursion (CanStand g) ants → StandApart ants → CanAllStand g ants
can-all [] g full inside can apart = tt
can-all (it ∷ ants) g full inside can apart = (can.0, can-all ants (standing g it) (full-standing g it full) inside.1 (later ants inside.1 can.1 apart.0) apart.1) where
  later : (others : List PlacedAnt) → AllByRecursion (StandsInside g.width g.height) others → AllByRecursion (CanStand g) others → StandsAlone it others → AllByRecursion (CanStand (standing g it)) others
  later [] within all alone = tt
  later (other ∷ others) within all alone = (stand-later g full it inside.0 other alone.0 all.0, later others within.1 all.1 alone.1)

-- ants that can stand one after another
pub record AllStand (g : Grid) (ants : List PlacedAnt) : Type 0 where
  pub can : AllByRecursion (CanStand g) ants
  pub apart : StandApart ants

pub all-can : (ants : List PlacedAnt) (g : Grid) → length g.cells ≡ g.width * g.height → AllByRecursion (StandsInside g.width g.height) ants → CanAllStand g ants → AllStand g ants
all-can [] g full inside can = record { can = tt; apart = tt }
all-can (it ∷ ants) g full inside can =
    let rest = all-can ants (standing g it) (full-standing g it full) inside.1 can.1 in
    record { can = (can.0, before ants rest.can); apart = (alone ants rest.can, rest.apart) }
  where
    before : (others : List PlacedAnt) → AllByRecursion (CanStand (standing g it)) others → AllByRecursion (CanStand g) others
    before [] all = tt
    before (other ∷ others) all = ((stand-before g full it inside.0 other all.0).1, before others all.1)

    alone : (others : List PlacedAnt) → AllByRecursion (CanStand (standing g it)) others → StandsAlone it others
    alone [] all = tt
    alone (other ∷ others) all = ((stand-before g full it inside.0 other all.0).0, alone others all.1)

-- an ant adds its weight
pub weight-standing : (g : Grid) (it : PlacedAnt) → length g.cells ≡ g.width * g.height → IsInside g.width g.height it.place → (cell_in g it.place).ant ≡ None → weight (world_of (standing g it)) ≡ weight (world_of g) + ant_weight (Some it.ant)
unfolding cell_weight
weight-standing g it full inside free =
    let put_weighs = weight-put (world_of g) it.place (stood_on g it) inside in
    let now : weight (world_of (standing g it)) ≡ weight (put (world_of g) it.place (stood_on g it)) = ap weight (world_of-standing g it full inside) in
    let none : ant_weight (cell_in g it.place).ant ≡ 0 = ap ant_weight free in
    omega (arith, put_weighs, now, none)

-- ants that stand add theirs
pub weight-all : (ants : List PlacedAnt) (g : Grid) → length g.cells ≡ g.width * g.height → AllByRecursion (StandsInside g.width g.height) ants → CanAllStand g ants → weight (world_of (all_standing g ants)) ≡ weight (world_of g) + weight_of_ants ants
weight-all [] g full inside can = omega arith
weight-all (it ∷ ants) g full inside can =
    let rest = weight-all ants (standing g it) (full-standing g it full) inside.1 can.1 in
    let one = weight-standing g it full inside.0 can.0.free in
    omega (arith, rest, one)

-- no ant has an id of this or above
abbrev pub AreBelow : Grid → ℕ → Type 0
AreBelow g least = (p : Pos) (ant : Ant) → (cell_in g p).ant ≡ Some ant → ant.id < least

-- an ant that was put is the latest
pub below-standing : (g : Grid) (it : PlacedAnt) (least : ℕ) → length g.cells ≡ g.width * g.height → IsInside g.width g.height it.place → least ≤ it.ant.id → AreBelow g least → AreBelow (standing g it) (suc it.ant.id)
below-standing g it least full inside late below p ant there = elim (cases_pos it.place p) [
  | inl here ↦
      let both : Some it.ant ≡ Some ant = ap (λ (c : Cell). c.ant) (sym (cell-here g full it inside)) ∙ ap (λ (q : Pos). (cell_in (standing g it) q).ant) here ∙ there in
      let same : it.ant ≡ ant = cc in
      let id : it.ant.id ≡ ant.id = ap (λ (a : Ant). a.id) same in
      omega (arith, id)
  | inr apart ↦
      let old = below p ant (ap (λ (c : Cell). c.ant) (sym (cell-other g full it inside p apart)) ∙ there) in
      omega (arith, old, late)
]

-- an ant whose id is above all may be set where it can stand
pub CanSet-standing : (g : Grid) (it : PlacedAnt) (room : ℕ) → 1 ≤ room → IsWorld g → IsInside g.width g.height it.place → CanStand g it → AreBelow g it.ant.id → weight (world_of g) + ant_weight (Some it.ant) ≤ most_weight → CanSet (world_of g) room it.place (stood_on g it)
CanSet-standing g it room some world inside can below light = record {
  room_left = some;
  inside = inside;
  was_clear = can.clear;
  is_clear = can.clear;
  same_hill = refl;
  six = record { red = (world.valid.six it.place).red; black = (world.valid.six it.place).black };
  ant_known = λ ant is. (let same : it.ant ≡ ant = cc in subst (λ (a : Ant). a.id < g.ids) same can.made);
  ant_nowhere_else = λ ant is q apart. nobody ant is q;
  light_enough = (let put_weighs : weight (put (world_of g) it.place (stood_on g it)) ≡ weight (world_of g) + ant_weight (Some it.ant) = ap weight (sym (world_of-standing g it world.full inside)) ∙ weight-standing g it world.full inside can.free in omega (arith, put_weighs, light));
} where
  nobody : (ant : Ant) → Some it.ant ≡ Some ant → (q : Pos) → holds_id ant.id (cell_in g q) ≡ false
  nobody ant is q = go (cell_in g q).ant refl where
    go : (o : Option Ant) → (cell_in g q).ant ≡ o → is_ant ant.id o ≡ false
    go None told = refl
    go (Some other) told =
        let same : it.ant ≡ ant = cc in
        let id : it.ant.id ≡ ant.id = ap (λ (a : Ant). a.id) same in
        let low = below q other told in
        ne_eqb other.id ant.id (λ e. omega (arith, id, low, e))

-- a cell that is free
pub record IsFree (cell : Cell) : Type 0 where
  pub clear : cell.rocky ≡ false
  pub free : cell.ant ≡ None

pub free-cell : (cell : Cell) → true ≡ is_free cell → IsFree cell
free-cell cell e =
    let parts = and_parts (not cell.rocky) (is_nobody cell.ant) (sym e) in
    record { clear = not-true cell.rocky parts.0; free = nobody cell.ant parts.1 }
  where
    nobody : (o : Option Ant) → is_nobody o ≡ true → o ≡ None
    nobody None is = refl
    nobody (Some ant) is = absurd (cc)
