-- A change of one cell keeps what every world keeps.
use Rattle.std.proofs.Common.{◌≡◌, ◌≢◌, inl, inr, ℕ, ◌+◌, ◌<◌, ◌≤◌, nat_eq, Option, None, Some, refl, sym, ap, ◌∙◌, arith, true, false, subst}
use Rattle.std.proofs.lemmas.Bool.{both_ways, false_from_ne_true}
use Rattle.std.specs.Option.{IsSomeAnd}
use Rattle.hex_geometry.specs.declared.position.Pos.{Pos}
use Rattle.hex_geometry.specs.Position.{IsInner}
use Rattle.cell_world.specs.declared.ant.Ant.{Ant}
use Rattle.cell_world.specs.declared.cell.Cell.{Cell}
use Rattle.cell_world.specs.Cell.{HasMarksOfSix, rock, holds_id, is_ant, cell_weight, ant_weight, one_if}
use Rattle.cell_world.specs.Marks.{IsOfSix}
use Rattle.cell_world.specs.World.{World, put, put_cell, weight}
use Rattle.cell_world.specs.Valid.{Valid, CanSet, CanThink, SameBody}
use Rattle.cell_world.specs.Inner.Replaces.{Replaces}
use Rattle.cell_world.proofs.Places.{Holder, ant-clear, is_ant-true, holds_id-own, clear_inside}
use Rattle.cell_world.proofs.Puts.{put_cell-same, put_cell-other, cases_pos}
use Rattle.cell_world.proofs.Weights.{weight-put}

-- what holds of the cell that is put and of each other cell holds of each cell after the change
pub put_cell-all : (w : World) (p : Pos) (cell : Cell) (P : Pos → Cell → Type 0) → P p cell → ((q : Pos) → p ≢ q → P q (w.cells q)) → (q : Pos) → P q (put_cell w.cells p cell q)
put_cell-all w p cell P here there q =
    elim (cases_pos p q) [
      | inl one ↦ subst (λ r. P r (put_cell w.cells p cell r)) one (subst (P p) (sym (put_cell-same w.cells p cell)) here)
      | inr apart ↦ subst (P q) (sym (put_cell-other w.cells p cell q apart)) (there q apart)
    ]

-- an ant on the cell that is put is on no other
put_alone : (w : World) (room : ℕ) (p : Pos) (cell : Cell) → CanSet w room p cell → (t : ℕ) → holds_id t cell ≡ true → (q : Pos) → p ≢ q → holds_id t (w.cells q) ≡ true → ⊥
put_alone w room p cell can t holds q apart there =
    let it : Holder t cell.ant = is_ant-true t cell.ant holds in
    both_ways (holds_id t (w.cells q)) (ap (λ i. holds_id i (w.cells q)) (sym it.id) ∙ can.ant_nowhere_else it.ant it.is q (λ e. apart (sym e))) there

-- no ant is at two positions after the change
put_once : (w : World) (room : ℕ) (p : Pos) (cell : Cell) → Valid w → CanSet w room p cell → (t : ℕ) (q r : Pos) → holds_id t (put_cell w.cells p cell q) ≡ true → holds_id t (put_cell w.cells p cell r) ≡ true → q ≡ r
put_once w room p cell valid can t =
    put_cell-all w p cell (λ q c. (r : Pos) → holds_id t c ≡ true → holds_id t (put_cell w.cells p cell r) ≡ true → q ≡ r)
    (put_cell-all w p cell (λ r d. holds_id t cell ≡ true → holds_id t d ≡ true → p ≡ r)
    (λ _ _. refl)
    (λ r apart new old. absurd (put_alone w room p cell can t new r apart old)))
    (λ q apart. put_cell-all w p cell (λ r d. holds_id t (w.cells q) ≡ true → holds_id t d ≡ true → q ≡ r)
    (λ old new. absurd (put_alone w room p cell can t new q apart old))
    (λ r _ at_q at_r. valid.once t q r at_q at_r))

-- a world with one cell set is a world
pub Valid-put : (w : World) (room : ℕ) (p : Pos) (cell : Cell) → Valid w → CanSet w room p cell → Valid (put w p cell)
Valid-put w room p cell valid can = record {
  wide = valid.wide;
  narrow = valid.narrow;
  tall = valid.tall;
  low = valid.low;
  few = valid.few;
  rim = put_cell-all w p cell (λ q c. c.rocky ≡ false → IsInner w.width w.height q) (λ _. valid.rim p can.was_clear) (λ q _. valid.rim q);
  bare = put_cell-all w p cell (λ q c. c.rocky ≡ true → c ≡ rock) (λ rocky. absurd (both_ways cell.rocky can.is_clear rocky)) (λ q _. valid.bare q);
  known = put_cell-all w p cell (λ q c. (ant : Ant) → c.ant ≡ Some ant → ant.id < w.ids) can.ant_known (λ q _. valid.known q);
  once = put_once w room p cell valid can;
  six = put_cell-all w p cell (λ _ c. HasMarksOfSix c) can.six (λ q _. valid.six q);
  light = can.light_enough;
}

-- a cell with the markers of another has markers of the six where that one has
pub HasMarksOfSix-same : (cell new : Cell) → new.red ≡ cell.red → new.black ≡ cell.black → HasMarksOfSix cell → HasMarksOfSix new
HasMarksOfSix-same cell new red black six = record { red = subst IsOfSix (sym red) six.red; black = subst IsOfSix (sym black) six.black }

-- a cell that replaces the one at p, with the same ant or none and no heavier, may be set where its markers are of the
-- six
pub CanSet-replaces : (w : World) (room : ℕ) (p : Pos) (cell : Cell) → Valid w → 1 ≤ room → (w.cells p).rocky ≡ false → Replaces (w.cells p) cell → HasMarksOfSix cell → CanSet w room p cell
CanSet-replaces w room p cell valid left clear replaces six = record {
  room_left = left;
  inside = clear_inside w p valid clear;
  was_clear = clear;
  is_clear = replaces.same_kind ∙ clear;
  same_hill = replaces.same_hill;
  six = six;
  ant_known = λ ant is.
      let it : Holder ant.id (w.cells p).ant = is_ant-true ant.id (w.cells p).ant (replaces.same_ant ant.id (holds_id-own cell ant is)) in
      let below : it.ant.id < w.ids = valid.known p it.ant it.is in
      let same : it.ant.id ≡ ant.id = it.id in
      omega arith;
  ant_nowhere_else = λ ant is q apart. false_from_ne_true (holds_id ant.id (w.cells q)) λ there.
      apart (valid.once ant.id q p there (replaces.same_ant ant.id (holds_id-own cell ant is)));
  light_enough =
      let change : weight (put w p cell) + cell_weight (w.cells p) ≡ weight w + cell_weight cell = weight-put w p cell (clear_inside w p valid clear) in
      let less : cell_weight cell ≤ cell_weight (w.cells p) = replaces.no_heavier in
      let light = valid.light in
      omega arith;
}

-- and the world is no heavier then
pub weight-replaces : (w : World) (p : Pos) (cell : Cell) → Valid w → (w.cells p).rocky ≡ false → Replaces (w.cells p) cell → weight (put w p cell) ≤ weight w
weight-replaces w p cell valid clear replaces =
    let change : weight (put w p cell) + cell_weight (w.cells p) ≡ weight w + cell_weight cell = weight-put w p cell (clear_inside w p valid clear) in
    let less : cell_weight cell ≤ cell_weight (w.cells p) = replaces.no_heavier in
    omega arith

-- a cell with the ant there in another state, rest and direction replaces the cell
pub Replaces-mind : (cell : Cell) (ant : Ant) → IsSomeAnd cell.ant (SameBody ant) → Replaces cell (record cell { ant = Some ant })
unfolding cell_weight
Replaces-mind cell ant stands = record {
  same_kind = refl;
  same_hill = refl;
  same_ant = λ t holds. same_id t cell.ant stands holds;
  no_heavier = let same : ant_weight cell.ant ≡ 9 + one_if ant.laden = same_weight cell.ant stands in omega arith;
}
  where
    same_id : (t : ℕ) (o : Option Ant) → IsSomeAnd o (SameBody ant) → nat_eq ant.id t ≡ true → is_ant t o ≡ true
    same_id t None there holds = absurd there
    same_id t (Some before) there holds = ap (λ i. nat_eq i t) (sym there.same_id) ∙ holds

    same_weight : (o : Option Ant) → IsSomeAnd o (SameBody ant) → ant_weight o ≡ 9 + one_if ant.laden
    same_weight None there = absurd there
    same_weight (Some before) there = ap (λ l. 9 + one_if l) (sym there.same_load)

-- what is known of the ant that stands where another of its body may be set
pub record Thinker (ant : Ant) (o : Option Ant) : Type 0 where
  pub before : Ant
  pub is : o ≡ Some before
  pub same : SameBody ant before

pub thinker : (ant : Ant) (o : Option Ant) → IsSomeAnd o (SameBody ant) → Thinker ant o
thinker ant None stands = absurd stands
thinker ant (Some before) stands = record { before = before; is = refl; same = stands }

-- if a state, a rest and a direction may be set, the cell with that ant may be set
pub CanSet-mind : (w : World) (room : ℕ) (p : Pos) (ant : Ant) → Valid w → CanThink w room p ant → CanSet w room p (record (w.cells p) { ant = Some ant })
CanSet-mind w room p ant valid can =
    let it : Thinker ant (w.cells p).ant = thinker ant (w.cells p).ant can.stands in
    CanSet-replaces w room p (record (w.cells p) { ant = Some ant }) valid can.room_left (ant-clear w p it.before valid it.is) (Replaces-mind (w.cells p) ant can.stands) (HasMarksOfSix-same (w.cells p) (record (w.cells p) { ant = Some ant }) refl refl (valid.six p))

-- likewise where the cell was read, and the world and the room stayed
pub CanSet-mind_read : (old new : World) (room left : ℕ) (p : Pos) (cell : Cell) (ant : Ant) → cell ≡ old.cells p → new ≡ old → left ≡ room → Valid new → CanThink old room p ant → CanSet new left p (record cell { ant = Some ant })
CanSet-mind_read old new room left p cell ant is same same_room valid can =
    let may : CanThink new left p ant = subst (λ w. CanThink w left p ant) (sym same) (subst (λ n. CanThink old n p ant) (sym same_room) can) in
    subst (λ (c : Cell). CanSet new left p (record c { ant = Some ant })) (ap (λ w. w.cells p) same ∙ sym is) (CanSet-mind new left p ant valid may)
