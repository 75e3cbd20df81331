-- Positions marked one after another.
use Rattle.std.proofs.Common.{◌≡◌, ◌⊎◌, inl, inr, ⊎_elim, ◌↔◌, ℕ, zero, suc, ◌+◌, ◌*◌, ◌<◌, ◌≤◌, Bool, true, false, List, [], ◌∷◌, ◌++◌, length, slice_index_or, slice_set, replicate, refl, sym, ◌∙◌, ap, ap₂, subst, arith}
use Rattle.std.proofs.lemmas.Bool.{cases_eq, false≢true}
use Rattle.std.proofs.lemmas.List.{get_or-replicate, get_or_read, get_or-set_other, get_or-set_same, length-replicate, length-set, length_push}
use Rattle.std.proofs.lemmas.List.Elements.{Contains-append_left, Contains-append_right, Contains-push_cases}
use Rattle.std.specs.List.{Contains}
use Rattle.list_lemmas.proofs.Elements.{Contains-none}
use Rattle.hex_geometry.specs.declared.position.Pos.{Pos}
use Rattle.hex_geometry.specs.Position.{IsInside}
use Rattle.cell_world.specs.Cell.{one_if}
use Rattle.cell_world.specs.Grid.{Grid, world_of}
use Rattle.hex_geometry.proofs.RowLemmas.{index_of-early, index_of-inside, index_of-same}
use Rattle.hex_geometry.specs.RowOrder.{index_of}
use Rattle.cell_world.specs.World.{Cells, World, with_cells}
use Rattle.round_book.specs.declared.workspace.Workspace.{Workspace}
use Rattle.round_book.specs.Inner.Kept.{IsWorkspaceReady}
use Rattle.round_book.specs.Inner.Workspace.{AreMarked, marks_in}

-- a list with one more at its end has what it had, and that one
pub Contains-more : (written : List Pos) (p q : Pos) → Contains (written ++ p ∷ []) q ↔ (Contains written q ⊎ (q ≡ p))
Contains-more written p q = (
  λ held. ⊎_elim inl (λ e. inr (sym e)) (Contains-push_cases written p q held),
  λ cases. ⊎_elim (λ old. Contains-append_left written (p ∷ []) q old) (λ same. Contains-append_right written (p ∷ []) q (subst (λ r. Contains (p ∷ []) r) (sym same) (0, omega arith, refl))) cases,
)

-- no mark is set if there are none
pub marks_in-none : (marked : List Bool) → ((i : ℕ) → i < length marked → slice_index_or marked i false ≡ false) → marks_in marked ≡ 0
marks_in-none [] none = refl
marks_in-none (mark ∷ marked) none =
    let first : one_if mark ≡ 0 = ap one_if (none 0 (omega arith)) in
    let rest : marks_in marked ≡ 0 = marks_in-none marked (λ i early. none (suc i) (omega arith)) in
    omega arith

unmarked_none : (n : ℕ) → marks_in (replicate n false) ≡ 0
unmarked_none zero = refl
unmarked_none (suc n) = let rest : marks_in (replicate n false) ≡ 0 = unmarked_none n in omega arith

-- as many cells without a mark as a world has
pub AreMarked-none : (grid : Grid) (marked : List Bool) (n : ℕ) → marked ≡ replicate n false → n ≡ grid.width * grid.height → AreMarked grid marked []
AreMarked-none grid marked n is many = subst (λ (list : List Bool). AreMarked grid list []) (sym is) (record {
  sized = length-replicate n false ∙ many;
  inside = λ p held. absurd (Contains-none p held);
  listed = λ p within bit. absurd (false≢true (sym (get_or-replicate n (index_of grid.width p) false false
      (subst (λ k. index_of grid.width p < k) (sym many) (index_of-inside grid.width grid.height p within))) ∙ bit));
  bear = λ p held. absurd (Contains-none p held);
  counted = unmarked_none n;
})

-- one mark more
marks_in-more : (marked : List Bool) (i : ℕ) → i < length marked → slice_index_or marked i false ≡ false → marks_in (slice_set marked i true) ≡ marks_in marked + 1
marks_in-more [] i early free = absurd (omega arith)
marks_in-more (mark ∷ marked) zero early free = let here : one_if mark ≡ 0 = ap one_if free in omega arith
marks_in-more (mark ∷ marked) (suc i) early free = let rest : marks_in (slice_set marked i true) ≡ marks_in marked + 1 = marks_in-more marked i (omega arith) free in omega arith

-- there are no more marks than cells
marks_in-most : (marked : List Bool) → marks_in marked ≤ length marked
marks_in-most [] = omega arith
marks_in-most (true ∷ marked) = let rest = marks_in-most marked in omega (arith, rest)
marks_in-most (false ∷ marked) = let rest = marks_in-most marked in omega (arith, rest)

-- if a cell is unmarked, fewer positions are listed than the world has cells
pub listed-below : (grid : Grid) (marked : List Bool) (written : List Pos) (p : Pos) → AreMarked grid marked written → IsInside grid.width grid.height p →
    slice_index_or marked (index_of grid.width p) false ≡ false → length written < grid.width * grid.height
listed-below grid marked written p marks inside free =
    let i : ℕ = index_of grid.width p in
    let one : marks_in (slice_set marked i true) ≡ marks_in marked + 1 = marks_in-more marked i (index_of-early marked grid.width grid.height p marks.sized inside) free in
    let most : marks_in (slice_set marked i true) ≤ length (slice_set marked i true) = marks_in-most (slice_set marked i true) in
    let size : length (slice_set marked i true) ≡ length marked = length-set marked i true in
    omega (arith, one, most, size, marks.sized, marks.counted)

-- a mark that was read and isn't set
pub unmarked-at : (marked : List Bool) (i at : ℕ) (mark : Bool) → i ≡ at → at < length marked → mark ≡ slice_index_or marked i mark → mark ≡ false → slice_index_or marked at false ≡ false
unmarked-at marked i at mark same early read free =
    ap (λ n. slice_index_or marked n false) (sym same) ∙ sym (get_or_read marked i mark (subst (λ n. n < length marked) (sym same) early) read false) ∙ free

-- one more position marked and listed, if it wasn't
pub AreMarked-more : (grid : Grid) (marked : List Bool) (written : List Pos) (p : Pos) → AreMarked grid marked written → IsInside grid.width grid.height p →
    slice_index_or marked (index_of grid.width p) false ≡ false → AreMarked grid (slice_set marked (index_of grid.width p) true) (written ++ p ∷ [])
AreMarked-more grid marked written p before inside free = record {
  sized = length-set marked (index_of grid.width p) true ∙ before.sized;
  inside = λ q held. ⊎_elim (λ old. before.inside q old) (λ same. subst (λ r. IsInside grid.width grid.height r) (sym same) inside) ((Contains-more written p q).0 held);
  listed = λ q here bit. (Contains-more written p q).1 (⊎_elim
      (λ same. inr (index_of-same grid.width q p here.column inside.column same))
      (λ other. inl (before.listed q here (sym (get_or-set_other marked (index_of grid.width p) (index_of grid.width q) true false other) ∙ bit)))
      (cases_eq (index_of grid.width q) (index_of grid.width p)));
  bear = λ q held. ⊎_elim
      (λ same. ap (λ i. slice_index_or (slice_set marked (index_of grid.width p) true) i false) same ∙ get_or-set_same marked (index_of grid.width p) true false early)
      (λ other. get_or-set_other marked (index_of grid.width p) (index_of grid.width q) true false other ∙ ⊎_elim
      (λ old. before.bear q old)
      (λ same. absurd (other (ap (index_of grid.width) same)))
      ((Contains-more written p q).0 held))
      (cases_eq (index_of grid.width q) (index_of grid.width p));
  counted = marks_in-more marked (index_of grid.width p) early free ∙ ap (λ n. n + 1) before.counted ∙ sym (length_push written p);
} where
  early : index_of grid.width p < length marked
  early = index_of-early marked grid.width grid.height p before.sized inside

-- marks are the same in a world of the same sizes
pub AreMarked-same : (grid new : Grid) (marked : List Bool) (written : List Pos) (cells : Cells) → world_of new ≡ with_cells (world_of grid) cells → AreMarked grid marked written → AreMarked new marked written
AreMarked-same grid new marked written cells same before = record {
  sized = before.sized ∙ ap₂ (λ (x y : ℕ). x * y) (sym width) (sym height);
  inside = λ p held. let here = before.inside p held in record { column = subst (λ n. p.x < n) (sym width) here.column; row = subst (λ n. p.y < n) (sym height) here.row };
  listed = λ p within bit. before.listed p (record { column = subst (λ n. p.x < n) width within.column; row = subst (λ n. p.y < n) height within.row }) (ap (λ n. slice_index_or marked (p.y * n + p.x) false) (sym width) ∙ bit);
  bear = λ p held. ap (λ n. slice_index_or marked (p.y * n + p.x) false) width ∙ before.bear p held;
  counted = before.counted;
} where
  width : new.width ≡ grid.width
  width = ap (λ (w : World). w.width) same

  height : new.height ≡ grid.height
  height = ap (λ (w : World). w.height) same

-- a workspace that is ready stays so when it gets more room
pub ready-reserved : (world : Grid) (old new : Workspace) → IsWorkspaceReady world old → new ≡ record old { written = new.written; verdicts = new.verdicts } → new.written.items ≡ old.written.items → new.verdicts.items ≡ old.verdicts.items → IsWorkspaceReady world new
ready-reserved world old new ready rest written verdicts = record {
  same = ap (λ (w : Workspace). w.world) rest ∙ ready.same;
  marks = subst (λ (w : Workspace). AreMarked world w.marked.items []) (sym rest) ready.marks;
  none_written = written ∙ ready.none_written;
  no_verdicts = verdicts ∙ ready.no_verdicts;
}

-- and is ready for the world that it has itself
pub ready-own : (world : Grid) (work : Workspace) → IsWorkspaceReady world work → IsWorkspaceReady work.world work
ready-own world work ready = record {
  same = refl;
  marks = subst (λ (grid : Grid). AreMarked grid work.marked.items []) (sym ready.same) ready.marks;
  none_written = ready.none_written;
  no_verdicts = ready.no_verdicts;
}
