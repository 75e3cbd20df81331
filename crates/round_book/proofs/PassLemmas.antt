-- Writes that are set in two passes.
use Rattle.std.proofs.Common.{◌≡◌, ◌≢◌, ◌⊎◌, inl, inr, ⊎_elim, ℕ, ◌+◌, ◌<◌, ◌≤◌, Bool, true, false, not, cond, nat_lt, List, [], ◌∷◌, length, drop, slice_index_or, refl, sym, ◌∙◌, ap, subst}
use Rattle.std.specs.List.{AllByRecursion}
use Rattle.std.proofs.Math.Path.{fun_ext}
use Rattle.std.proofs.lemmas.Bool.{cond-false, cond-true, cond_both, not-true}
use Rattle.std.proofs.lemmas.List.{at_drop_all, drop_more}
use Rattle.hex_geometry.specs.declared.position.Pos.{Pos}
use Rattle.hex_geometry.specs.Position.{IsInside}
use Rattle.cell_world.specs.declared.cell.Cell.{Cell}
use Rattle.cell_world.specs.Cell.{cell_weight}
use Rattle.cell_world.specs.Parts.{CanPatch, patched}
use Rattle.cell_world.specs.Valid.{CanSet}
use Rattle.cell_world.specs.World.{Cells, World, put, put_cell, with_cells}
use Rattle.cell_world.proofs.Puts.{cases_pos, put_cell-other, put_cell-same}
use Rattle.spec_record.specs.Claims.{EachOnce, Sighting, seen_cell, seen_parts, seen_place, seen_positions}
use Rattle.spec_record.specs.Patches.{CanSetHeavier, CanWrite, CanSetLighter, after_lighter, patched_by_write, patched_cells, raises, with_heavier, with_lighter, with_write}
use Rattle.spec_record.proofs.SettledWrites.{CanPatch-again, patched-again}
use Rattle.round_book.specs.Book.{CanPatchIn, CanTake}
use Rattle.round_book.specs.Inner.Passes.{CanSetInPass, CanSetPass, after_pass, is_in_pass, with_pass}

-- what a pass makes of the cell of a write
abbrev cell_after : Bool → Cell → Sighting → Cell
cell_after heavier cell write = cond (is_in_pass heavier (nat_lt (cell_weight cell) (cell_weight (patched cell (seen_cell write) (seen_parts write))))) (patched cell (seen_cell write) (seen_parts write)) cell

module _ (heavier : Bool) (w : World) (write : Sighting) where
  -- its own cell
  with_pass-own : (with_pass heavier w write).cells (seen_place write) ≡ cell_after heavier (w.cells (seen_place write)) write
  with_pass-own =
      cond_both (is_in_pass heavier (raises w.cells write)) (put w (seen_place write) (patched_by_write w.cells write)) w
      (λ v. v.cells (seen_place write) ≡ cell_after heavier (w.cells (seen_place write)) write)
      (λ yes'. put_cell-same w.cells (seen_place write) (patched_by_write w.cells write) ∙ sym (cond-true _ _ _ yes'))
      (λ no'. sym (cond-false _ _ _ no'))

  -- every other cell stays
  with_pass-other : (p : Pos) → seen_place write ≢ p → (with_pass heavier w write).cells p ≡ w.cells p
  with_pass-other p apart =
      cond_both (is_in_pass heavier (raises w.cells write)) (put w (seen_place write) (patched_by_write w.cells write)) w
      (λ v. v.cells p ≡ w.cells p)
      (λ yes'. put_cell-other w.cells (seen_place write) (patched_by_write w.cells write) p apart)
      (λ no'. refl)

  -- so do the sizes
  with_pass-sizes : with_pass heavier w write ≡ with_cells w (with_pass heavier w write).cells
  with_pass-sizes =
      cond_both (is_in_pass heavier (raises w.cells write)) (put w (seen_place write) (patched_by_write w.cells write)) w
      (λ v. v ≡ with_cells w v.cells) (λ yes'. refl) (λ no'. refl)

  -- what can be patched elsewhere can be still
  CanPatchIn-pass : (other : Sighting) → seen_place other ≢ seen_place write → CanPatchIn w other → CanPatchIn (with_pass heavier w write) other
  CanPatchIn-pass other apart can =
      cond_both (is_in_pass heavier (raises w.cells write)) (put w (seen_place write) (patched_by_write w.cells write)) w
      (λ v. CanPatchIn v other)
      (λ yes'. (can.0, subst (λ c. CanPatch c (seen_cell other) (seen_parts other)) (sym (put_cell-other w.cells (seen_place write) (patched_by_write w.cells write) (seen_place other) (λ e. apart (sym e)))) can.1))
      (λ no'. can)

  -- and here too
  CanPatchIn-own : CanPatchIn w write → CanPatchIn (with_pass heavier w write) write
  CanPatchIn-own can =
      cond_both (is_in_pass heavier (raises w.cells write)) (put w (seen_place write) (patched_by_write w.cells write)) w
      (λ v. CanPatchIn v write)
      (λ yes'. (can.0, subst (λ c. CanPatch c (seen_cell write) (seen_parts write)) (sym (put_cell-same w.cells (seen_place write) (patched_by_write w.cells write))) (CanPatch-again (w.cells (seen_place write)) (seen_cell write) (seen_parts write) can.1)))
      (λ no'. can)

-- of all that is left
each-next : (heavier : Bool) (w : World) (write : Sighting) (left : List Sighting) → AllByRecursion (λ q. q ≢ seen_place write) (seen_positions left) → AllByRecursion (CanPatchIn w) left → AllByRecursion (CanPatchIn (with_pass heavier w write)) left
each-next heavier w write [] apart each = tt
each-next heavier w write (other ∷ left) apart each = (CanPatchIn-pass heavier w write other apart.0 each.0, each-next heavier w write left apart.1 each.1)

-- what is left of a pass leads where the whole pass leads
pub record PassLeft (heavier : Bool) (start : World) (writes : List Sighting) (now : World) (left : List Sighting) : Type 0 where
  pub leads : after_pass heavier now left ≡ after_pass heavier start writes
  pub set : CanSetPass heavier now left
  pub each : AllByRecursion (CanPatchIn now) left
  pub once : EachOnce (seen_positions left)

PassLeft-next : (heavier : Bool) (start : World) (writes : List Sighting) (now : World) (write : Sighting) (left : List Sighting) (new : World) → new ≡ with_pass heavier now write →
    PassLeft heavier start writes now (write ∷ left) → PassLeft heavier start writes new left
PassLeft-next heavier start writes now write left new is before = subst (λ v. PassLeft heavier start writes v left) (sym is) (record {
  leads = before.leads;
  set = before.set.1;
  each = each-next heavier now write left before.once.0 before.each.1;
  once = before.once.1;
})

-- the next write of the pass
pub PassLeft-item : (heavier : Bool) (start : World) (writes : List Sighting) (now : World) (i : ℕ) (d : Sighting) → i < length writes → PassLeft heavier start writes now (drop i writes) →
    CanPatchIn now (slice_index_or writes i d) × CanSetInPass heavier now (slice_index_or writes i d)
PassLeft-item heavier start writes now i d early before =
    let here : PassLeft heavier start writes now (slice_index_or writes i d ∷ drop (i + 1) writes) = subst (PassLeft heavier start writes now) (drop_more writes i d early) before in
    (here.each.0, here.set.0)

pub PassLeft-step : (heavier : Bool) (start : World) (writes : List Sighting) (now : World) (i : ℕ) (d : Sighting) (new : World) → i < length writes → new ≡ with_pass heavier now (slice_index_or writes i d) →
    PassLeft heavier start writes now (drop i writes) → PassLeft heavier start writes new (drop (i + 1) writes)
PassLeft-step heavier start writes now i d new early is before =
    PassLeft-next heavier start writes now (slice_index_or writes i d) (drop (i + 1) writes) new is (subst (PassLeft heavier start writes now) (drop_more writes i d early) before)

-- nothing is left
pub PassLeft-end : (heavier : Bool) (start : World) (writes : List Sighting) (now : World) (i : ℕ) → length writes ≤ i → PassLeft heavier start writes now (drop i writes) → now ≡ after_pass heavier start writes
PassLeft-end heavier start writes now i late left = sym (at_drop_all (after_pass heavier now) writes i late) ∙ left.leads

-- the first pass is that of the lighter writes, the second that of the heavier ones
lighter-same : (w : World) (write : Sighting) → with_pass false w write ≡ with_lighter w write
lighter-same w write = go (raises w.cells write) where
  go : (b : Bool) → cond (not b) (put w (seen_place write) (patched_by_write w.cells write)) w ≡ cond b w (put w (seen_place write) (patched_by_write w.cells write))
  go true = refl
  go false = refl

after-lighter : (writes : List Sighting) (w : World) → after_pass false w writes ≡ after_lighter w writes
after-lighter [] w = refl
after-lighter (write ∷ writes) w = after-lighter writes (with_pass false w write) ∙ ap (λ v. after_lighter v writes) (lighter-same w write)

pub CanSetPass-lighter : (writes : List Sighting) (w : World) → CanSetLighter w 9 writes → CanSetPass false w writes
CanSetPass-lighter [] w can = tt
CanSetPass-lighter (write ∷ writes) w can = (
  λ light. (can.0 (not-true (raises w.cells write) light)).can_set,
  CanSetPass-lighter writes (with_pass false w write) (subst (λ v. CanSetLighter v 9 writes) (sym (lighter-same w write)) can.1),
)

CanSetPass-heavier : (writes : List Sighting) (w : World) → CanSetHeavier w 9 writes → CanSetPass true w writes
CanSetPass-heavier [] w can = tt
CanSetPass-heavier (write ∷ writes) w can = (λ heavy. (can.0 heavy).can_set, CanSetPass-heavier writes (with_heavier w write) can.1)

-- a pass leaves all positions that it doesn't write
after_pass-other : (heavier : Bool) (writes : List Sighting) (w : World) (p : Pos) → AllByRecursion (λ q. q ≢ p) (seen_positions writes) → (after_pass heavier w writes).cells p ≡ w.cells p
after_pass-other heavier [] w p apart = refl
after_pass-other heavier (write ∷ writes) w p apart = after_pass-other heavier writes (with_pass heavier w write) p apart.1 ∙ with_pass-other heavier w write p apart.0

pub patched_cells-other : (writes : List Sighting) (cells : Cells) (p : Pos) → AllByRecursion (λ q. q ≢ p) (seen_positions writes) → patched_cells cells writes p ≡ cells p
patched_cells-other [] cells p apart = refl
patched_cells-other (write ∷ writes) cells p apart = patched_cells-other writes (with_write cells write) p apart.1 ∙ put_cell-other cells (seen_place write) (patched_by_write cells write) p apart.0

-- and the sizes
after_pass-sizes : (heavier : Bool) (writes : List Sighting) (w : World) → after_pass heavier w writes ≡ with_cells w (after_pass heavier w writes).cells
after_pass-sizes heavier [] w = refl
after_pass-sizes heavier (write ∷ writes) w =
    after_pass-sizes heavier writes (with_pass heavier w write) ∙ ap (λ (v : World). with_cells v (after_pass heavier w (write ∷ writes)).cells) (with_pass-sizes heavier w write)

-- the list has this write, and no other at its position
abbrev Has : List Sighting → Sighting → Type 0
Has [] x = ⊥
Has (write ∷ writes) x = ((write ≡ x) × AllByRecursion (λ q. q ≢ seen_place x) (seen_positions writes)) ⊎ ((seen_place write ≢ seen_place x) × Has writes x)

-- a position is written by no write, or by one
record Writer (writes : List Sighting) (p : Pos) : Type 0 where
  pub write : Sighting
  pub has : Has writes write
  pub here : seen_place write ≡ p

find_writer : (writes : List Sighting) (p : Pos) → EachOnce (seen_positions writes) → AllByRecursion (λ q. q ≢ p) (seen_positions writes) ⊎ Writer writes p
find_writer [] p once = inl tt
find_writer (write ∷ writes) p once = ⊎_elim
    (λ same. inr (record { write = write; has = inl (refl, once.0); here = same }))
    (λ apart. ⊎_elim
    (λ none. inl (apart, none))
    (λ found. inr (record { write = found.write; has = inr ((λ e. apart (e ∙ found.here)), found.has); here = found.here }))
    (find_writer writes p once.1))
    (cases_pos (seen_place write) p)

-- what a pass makes of a written cell
after_pass-at : (heavier : Bool) (writes : List Sighting) (w : World) (x : Sighting) → Has writes x → (after_pass heavier w writes).cells (seen_place x) ≡ cell_after heavier (w.cells (seen_place x)) x
after_pass-at heavier [] w x has = absurd has
after_pass-at heavier (write ∷ writes) w x has = ⊎_elim
    (λ here. after_pass-other heavier writes (with_pass heavier w write) (seen_place x) here.1
    ∙ subst (λ y. (with_pass heavier w y).cells (seen_place x) ≡ cell_after heavier (w.cells (seen_place x)) x) (sym here.0) (with_pass-own heavier w x))
    (λ later. after_pass-at heavier writes (with_pass heavier w write) x later.1 ∙ ap (λ c. cell_after heavier c x) (with_pass-other heavier w write (seen_place x) later.0))
    has

patched_cells-at : (writes : List Sighting) (cells : Cells) (x : Sighting) → Has writes x → patched_cells cells writes (seen_place x) ≡ patched (cells (seen_place x)) (seen_cell x) (seen_parts x)
patched_cells-at [] cells x has = absurd has
patched_cells-at (write ∷ writes) cells x has = ⊎_elim
    (λ here. patched_cells-other writes (with_write cells write) (seen_place x) here.1
    ∙ subst (λ (y : Sighting). put_cell cells (seen_place y) (patched_by_write cells y) (seen_place x) ≡ patched (cells (seen_place x)) (seen_cell x) (seen_parts x)) (sym here.0) (put_cell-same cells (seen_place x) (patched_by_write cells x)))
    (λ later. patched_cells-at writes (with_write cells write) x later.1 ∙ ap (λ c. patched c (seen_cell x) (seen_parts x)) (put_cell-other cells (seen_place write) (patched_by_write cells write) (seen_place x) later.0))
    has

-- what holds of all writes holds of it
Has-all : (P : Sighting → Type 0) (writes : List Sighting) (x : Sighting) → Has writes x → AllByRecursion P writes → P x
Has-all P [] x has all = absurd has
Has-all P (write ∷ writes) x has all = ⊎_elim (λ here. subst P here.0 all.0) (λ later. Has-all P writes x later.1 all.1) has

-- one pass after the other patches the cell
passes_patch : (cell : Cell) (x : Sighting) → CanPatch cell (seen_cell x) (seen_parts x) → cell_after true (cell_after false cell x) x ≡ patched cell (seen_cell x) (seen_parts x)
passes_patch cell x can = go (nat_lt (cell_weight cell) (cell_weight (patched cell (seen_cell x) (seen_parts x)))) refl where
  new : Cell
  new = patched cell (seen_cell x) (seen_parts x)

  either : (b : Bool) → cond b (patched (patched cell (seen_cell x) (seen_parts x)) (seen_cell x) (seen_parts x)) (patched cell (seen_cell x) (seen_parts x)) ≡ patched cell (seen_cell x) (seen_parts x)
  either true = patched-again cell (seen_cell x) (seen_parts x) can
  either false = refl

  go : (b : Bool) → nat_lt (cell_weight cell) (cell_weight (patched cell (seen_cell x) (seen_parts x))) ≡ b → cell_after true (cell_after false cell x) x ≡ patched cell (seen_cell x) (seen_parts x)
  go true heavy =
      ap (λ c. cell_after true c x) (cond-false (not (nat_lt (cell_weight cell) (cell_weight (patched cell (seen_cell x) (seen_parts x))))) (patched cell (seen_cell x) (seen_parts x)) cell (ap not heavy))
      ∙ cond-true (nat_lt (cell_weight cell) (cell_weight (patched cell (seen_cell x) (seen_parts x)))) (patched cell (seen_cell x) (seen_parts x)) cell heavy
  go false light =
      ap (λ c. cell_after true c x) (cond-true (not (nat_lt (cell_weight cell) (cell_weight (patched cell (seen_cell x) (seen_parts x))))) (patched cell (seen_cell x) (seen_parts x)) cell (ap not light))
      ∙ either (nat_lt (cell_weight (patched cell (seen_cell x) (seen_parts x))) (cell_weight (patched (patched cell (seen_cell x) (seen_parts x)) (seen_cell x) (seen_parts x))))

-- both passes make what the writes make
passes_cells : (w : World) (writes : List Sighting) → EachOnce (seen_positions writes) → CanTake w writes → (p : Pos) → (after_pass true (after_pass false w writes) writes).cells p ≡ patched_cells w.cells writes p
passes_cells w writes once can p = ⊎_elim
    (λ none. after_pass-other true writes (after_pass false w writes) p none ∙ after_pass-other false writes w p none ∙ sym (patched_cells-other writes w.cells p none))
    (λ found. subst (λ q. (after_pass true (after_pass false w writes) writes).cells q ≡ patched_cells w.cells writes q) found.here
    (after_pass-at true writes (after_pass false w writes) found.write found.has
    ∙ ap (λ c. cell_after true c found.write) (after_pass-at false writes w found.write found.has)
    ∙ passes_patch (w.cells (seen_place found.write)) found.write (Has-all (CanPatchIn w) writes found.write found.has can.each).1
    ∙ sym (patched_cells-at writes w.cells found.write found.has)))
    (find_writer writes p once)

pub passes-set : (w first second : World) (writes : List Sighting) → EachOnce (seen_positions writes) → CanTake w writes → first ≡ after_pass false w writes → second ≡ after_pass true first writes → second ≡ with_cells w (patched_cells w.cells writes)
passes-set w first second writes once can one two =
    two ∙ ap (λ v. after_pass true v writes) one
    ∙ after_pass-sizes true writes (after_pass false w writes)
    ∙ ap (λ (v : World). with_cells v (after_pass true (after_pass false w writes) writes).cells) (after_pass-sizes false writes w)
    ∙ ap (with_cells w) (fun_ext (passes_cells w writes once can))

-- after the first pass
each_after : (heavier : Bool) (writes : List Sighting) (w : World) → EachOnce (seen_positions writes) → AllByRecursion (CanPatchIn w) writes → AllByRecursion (CanPatchIn (after_pass heavier w writes)) writes
each_after heavier [] w once each = tt
each_after heavier (write ∷ writes) w once each =
    let own : CanPatchIn (with_pass heavier w write) write = CanPatchIn-own heavier w write each.0 in
    let stays = after_pass-other heavier writes (with_pass heavier w write) (seen_place write) once.0 in (
      CanPatchIn-same (with_pass heavier w write) (after_pass heavier (with_pass heavier w write) writes) write (after_pass-sizes heavier writes (with_pass heavier w write)) stays own,
      each_after heavier writes (with_pass heavier w write) once.1 (each-next heavier w write writes once.0 each.1),
    )
  where
    CanPatchIn-same : (v u : World) (x : Sighting) → u ≡ with_cells v u.cells → u.cells (seen_place x) ≡ v.cells (seen_place x) → CanPatchIn v x → CanPatchIn u x
    CanPatchIn-same v u x sizes same can =
        (subst (λ (t : World). IsInside t.width t.height (seen_place x)) (sym sizes) can.0, subst (λ c. CanPatch c (seen_cell x) (seen_parts x)) (sym same) can.1)

pub second-each : (w first : World) (writes : List Sighting) → EachOnce (seen_positions writes) → CanTake w writes → first ≡ after_pass false w writes → AllByRecursion (CanPatchIn first) writes
second-each w first writes once can one = subst (λ v. AllByRecursion (CanPatchIn v) writes) (sym one) (each_after false writes w once can.each)

pub second-set : (w first : World) (writes : List Sighting) → CanTake w writes → first ≡ after_pass false w writes → CanSetPass true first writes
second-set w first writes can one =
    subst (λ v. CanSetPass true v writes) (sym (one ∙ after-lighter writes w)) (CanSetPass-heavier writes (after_lighter w writes) can.in_order.heavier)

-- a list of one
pub one_alone : {A : Type 0} (xs : List A) (d : A) → length xs ≡ 1 → xs ≡ slice_index_or xs 0 d ∷ []
one_alone (x ∷ []) d is = refl
one_alone it d is = absurd (cc)

-- a write that is the only one may be set, whether it raises its cell's weight or not
CanSet-either : (raised : Bool) (w : World) (write : Sighting) → raises w.cells write ≡ raised → CanTake w (write ∷ []) → CanSet w 9 (seen_place write) (patched_by_write w.cells write)
CanSet-either false w write is may = (may.in_order.lighter.0 is).can_set
CanSet-either true w write is may =
    let same : with_lighter w write ≡ w = cond-true _ _ _ is in
    ((subst (λ (v : World). raises v.cells write ≡ true → CanWrite v 9 write) same may.in_order.heavier.0) is).can_set

pub CanSet-alone : (w : World) (write : Sighting) → CanTake w (write ∷ []) → CanSet w 9 (seen_place write) (patched_by_write w.cells write)
CanSet-alone w write may = CanSet-either (raises w.cells write) w write refl may
