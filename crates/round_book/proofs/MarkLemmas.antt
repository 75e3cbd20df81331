-- Positions that are marked, or whose marks are taken off, one after another.
use Rattle.std.proofs.Common.{◌≡◌, ◌⊎◌, inl, inr, ⊎_elim, ◌↔◌, ℕ, zero, suc, ◌+◌, ◌*◌, ◌<◌, ◌≤◌, Bool, true, false, List, [], ◌∷◌, length, drop, slice_index_or, slice_set, sym, ◌∙◌, ap, subst, arith, Option, Some, None}
use Rattle.std.specs.List.{AllByRecursion, Contains}
use Rattle.std.specs.Option.{is_some}
use Rattle.std.proofs.lemmas.Bool.{cases_Bool, cases_eq, false≢true}
use Rattle.std.proofs.lemmas.List.{at_drop_all, drop_more, get_or-set_other, get_or-set_same, length-set}
use Rattle.std.proofs.lemmas.List.Elements.{Contains-get_or}
use Rattle.list_lemmas.proofs.Elements.{Contains-cases, Contains-first, Contains-later, Contains-none}
use Rattle.hex_geometry.specs.declared.position.Pos.{Pos}
use Rattle.hex_geometry.specs.Position.{IsInside}
use Rattle.cell_world.specs.Grid.{Grid}
use Rattle.hex_geometry.proofs.RowLemmas.{index_of-inside, index_of-pos_at, pos_at-inside}
use Rattle.hex_geometry.specs.RowOrder.{index_of, pos_at}
use Rattle.cell_world.specs.Parts.{Agree}
use Rattle.cell_world.specs.World.{Cells}
use Rattle.spec_record.specs.Claims.{Sighting, seen_cell, seen_parts, seen_place, seen_positions}
use Rattle.round_book.specs.declared.verdict.Cause.{Cause}
use Rattle.round_book.specs.declared.verdict.Cause.TheVariants as cause
use Rattle.round_book.specs.Book.{AgreesIfUnwritten, Wrote}
use Rattle.round_book.specs.Inner.Changes.{Changes, IsUnwritten}
use Rattle.round_book.specs.Inner.Workspace.{AreMarked}
use Rattle.round_book.proofs.WorkspaceLemmas.{marks_in-none}

Contains-place : (writes : List Sighting) (i : ℕ) (d : Sighting) → i < length writes → Contains (seen_positions writes) (seen_place (slice_index_or writes i d))
Contains-place [] i d early = absurd (omega arith)
Contains-place (write ∷ writes) zero d early = Contains-first (seen_place write) (seen_positions writes)
Contains-place (write ∷ writes) (suc i) d early = Contains-later (seen_place write) (seen_place (slice_index_or writes i d)) (seen_positions writes) (Contains-place writes i d (omega arith))

-- some of the writes are marked: all that was is still, nothing else but their positions is, and each of them is or is
-- among those that are left
pub record Marking (start : List Pos) (all : List Sighting) (now : List Pos) (left : List Sighting) : Type 0 where
  pub old : (p : Pos) → Contains start p → Contains now p
  pub from : (p : Pos) → Contains now p → Contains start p ⊎ Contains (seen_positions all) p
  pub done : (p : Pos) → Contains (seen_positions all) p → Contains now p ⊎ Contains (seen_positions left) p

pub Marking-step : (start : List Pos) (all : List Sighting) (now : List Pos) (i : ℕ) (d : Sighting) (new : List Pos) → i < length all →
    ((q : Pos) → Contains new q ↔ (Contains now q ⊎ (q ≡ (seen_place (slice_index_or all i d))))) → Marking start all now (drop i all) → Marking start all new (drop (i + 1) all)
Marking-step start all now i d new early marks before = record {
  old = λ p held. (marks p).1 (inl (before.old p held));
  from = λ p held. ⊎_elim (λ old. before.from p old) (λ same. inr (subst (Contains (seen_positions all)) (sym same) (Contains-place all i d early))) ((marks p).0 held);
  done = λ p held. ⊎_elim
      (λ old. inl ((marks p).1 (inl old)))
      (λ left. ⊎_elim
      (λ same. inl ((marks p).1 (inr (sym same))))
      inr
      (Contains-cases (seen_place (slice_index_or all i d)) p (seen_positions (drop (i + 1) all)) (subst (λ left. Contains (seen_positions left) p) (drop_more all i d early) left)))
      (before.done p held);
}

pub Marking-end : (start : List Pos) (all : List Sighting) (now : List Pos) (i : ℕ) → length all ≤ i → Marking start all now (drop i all) → Wrote start (seen_positions all) now
Marking-end start all now i late marking = λ p. (
  λ held. marking.from p held,
  λ cases. ⊎_elim (λ old. marking.old p old)
      (λ new. ⊎_elim (λ held. held) (λ left. absurd (Contains-none p (subst (λ (ps : List Pos). Contains ps p) (at_drop_all seen_positions all i late) left))) (marking.done p new))
      cases,
)

-- some of the marks are taken off: those that are left are at positions that are left
pub record Unmarking (grid : Grid) (marked : List Bool) (left : List Pos) : Type 0 where
  pub sized : length marked ≡ grid.width * grid.height
  pub inside : (p : Pos) → Contains left p → IsInside grid.width grid.height p
  pub listed : (p : Pos) → IsInside grid.width grid.height p → slice_index_or marked (index_of grid.width p) false ≡ true → Contains left p

pub Unmarking-here : (grid : Grid) (marked : List Bool) (places : List Pos) (i : ℕ) (d : Pos) → i < length places → Unmarking grid marked (drop i places) → IsInside grid.width grid.height (slice_index_or places i d)
Unmarking-here grid marked places i d early before =
    before.inside (slice_index_or places i d) (subst (λ ps. Contains ps (slice_index_or places i d)) (sym (drop_more places i d early)) (Contains-first (slice_index_or places i d) (drop (i + 1) places)))

pub Unmarking-step : (grid : Grid) (marked : List Bool) (places : List Pos) (i : ℕ) (d : Pos) → i < length places → Unmarking grid marked (drop i places) →
    Unmarking grid (slice_set marked (index_of grid.width (slice_index_or places i d)) false) (drop (i + 1) places)
Unmarking-step grid marked places i d early before =
    let here : Pos = slice_index_or places i d in
    let at : ℕ = index_of grid.width here in
    let open_left : drop i places ≡ here ∷ drop (i + 1) places = drop_more places i d early in
    let in_grid : IsInside grid.width grid.height here = Unmarking-here grid marked places i d early before in
    record {
      sized = length-set marked at false ∙ before.sized;
      inside = λ p held. before.inside p (subst (λ ps. Contains ps p) (sym open_left) (Contains-later here p (drop (i + 1) places) held));
      listed = λ p within bit. ⊎_elim
          (λ same. absurd (false≢true (sym (get_or-set_same marked at false false (subst (λ n. at < n) (sym before.sized) (index_of-inside grid.width grid.height here in_grid)))
          ∙ ap (λ k. slice_index_or (slice_set marked at false) k false) (sym same) ∙ bit)))
          (λ apart. ⊎_elim
          (λ first. absurd (apart (ap (index_of grid.width) (sym first))))
          (λ later. later)
          (Contains-cases here p (drop (i + 1) places) (subst (λ ps. Contains ps p) open_left
          (before.listed p within (sym (get_or-set_other marked at (index_of grid.width p) false false apart) ∙ bit)))))
          (cases_eq (index_of grid.width p) at);
    }

pub Unmarking-end : (grid : Grid) (marked : List Bool) (places : List Pos) (i : ℕ) → length places ≤ i → Unmarking grid marked (drop i places) → AreMarked grid marked []
Unmarking-end grid marked places i late left = record {
  sized = left.sized;
  inside = λ p held. absurd (Contains-none p held);
  listed = λ p within bit. subst (λ (ps : List Pos). Contains ps p) (at_drop_all (λ (ps : List Pos). ps) places i late) (left.listed p within bit);
  bear = λ p held. absurd (Contains-none p held);
  counted = marks_in-none marked unmarked;
} where
  unmarked : (k : ℕ) → k < length marked → slice_index_or marked k false ≡ false
  unmarked k early = elim (cases_Bool (slice_index_or marked k false)) [
    | inl bit ↦
        let at : index_of grid.width (pos_at grid.width k) ≡ k = index_of-pos_at grid.width k in
        let held : Contains (drop i places) (pos_at grid.width k) =
        left.listed (pos_at grid.width k) (pos_at-inside grid.width grid.height k (subst (λ n. k < n) left.sized early)) (ap (λ n. slice_index_or marked n false) at ∙ bit) in
        absurd (Contains-none (pos_at grid.width k) (subst (λ (ps : List Pos). Contains ps (pos_at grid.width k)) (at_drop_all (λ (ps : List Pos). ps) places i late) held))
    | inr none ↦ none
  ]

-- what was read and is left to compare
pub record Comparing (written : List Pos) (cells : Cells) (reads left : List Sighting) : Type 0 where
  pub unwritten : AllByRecursion (AgreesIfUnwritten written cells) left
  pub rest : AllByRecursion (λ read. Agree (seen_parts read) (seen_cell read) (cells (seen_place read))) left → AllByRecursion (λ read. Agree (seen_parts read) (seen_cell read) (cells (seen_place read))) reads

pub Comparing-item : (written : List Pos) (cells : Cells) (reads : List Sighting) (i : ℕ) (d : Sighting) → i < length reads → Comparing written cells reads (drop i reads) → AgreesIfUnwritten written cells (slice_index_or reads i d)
Comparing-item written cells reads i d early before = (subst (AllByRecursion (AgreesIfUnwritten written cells)) (drop_more reads i d early) before.unwritten).0

pub Comparing-step : (written : List Pos) (cells : Cells) (reads : List Sighting) (i : ℕ) (d : Sighting) → i < length reads → Agree (seen_parts (slice_index_or reads i d)) (seen_cell (slice_index_or reads i d)) (cells (seen_place (slice_index_or reads i d))) →
    Comparing written cells reads (drop i reads) → Comparing written cells reads (drop (i + 1) reads)
Comparing-step written cells reads i d early agrees before = record {
  unwritten = (subst (AllByRecursion (AgreesIfUnwritten written cells)) (drop_more reads i d early) before.unwritten).1;
  rest = λ all. before.rest (subst (AllByRecursion (λ read. Agree (seen_parts read) (seen_cell read) (cells (seen_place read)))) (sym (drop_more reads i d early)) (agrees, all));
}

pub Comparing-end : (written : List Pos) (cells : Cells) (reads : List Sighting) (i : ℕ) → length reads ≤ i → Comparing written cells reads (drop i reads) → Changes reads cells None
Comparing-end written cells reads i late before =
    before.rest (subst (AllByRecursion (λ read. Agree (seen_parts read) (seen_cell read) (cells (seen_place read)))) (sym (at_drop_all (λ (rs : List Sighting). rs) reads i late)) tt)

-- a change of one read is one of all
pub Changes-among : (reads : List Sighting) (cells : Cells) (i : ℕ) (d : Sighting) (found : Cause) → i < length reads → Changes (slice_index_or reads i d ∷ []) cells (Some found) → Changes reads cells (Some found)
Changes-among reads cells i d (cause.Part at k) early change = record {
  read = change.read;
  is_read = ⊎_elim (λ same. subst (Contains reads) same (Contains-get_or reads i d early)) (λ none. absurd (Contains-none change.read none)) (Contains-cases (slice_index_or reads i d) change.read [] change.is_read);
  here = change.here;
  named = change.named;
  differs = change.differs;
}
Changes-among reads cells i d (cause.Place guessed actual) early change = change

-- what comparing one read answers: a change of all reads, or none at that read
pub Changes-found : (reads : List Sighting) (cells : Cells) (i : ℕ) (d : Sighting) (answer : Option Cause) → i < length reads → is_some answer ≡ true → Changes (slice_index_or reads i d ∷ []) cells answer → Changes reads cells answer
Changes-found reads cells i d None early is change = absurd (false≢true is)
Changes-found reads cells i d (Some found) early is change = Changes-among reads cells i d found early change

pub Changes-not_found : (read : Sighting) (cells : Cells) (answer : Option Cause) → is_some answer ≡ false → Changes (read ∷ []) cells answer → Agree (seen_parts read) (seen_cell read) (cells (seen_place read))
Changes-not_found read cells None is change = change.0
Changes-not_found read cells (Some found) is change = absurd (false≢true (sym is))

-- what was read is there still if nothing of it was written
pub unwritten-agree : (written : List Pos) (cells : Cells) (reads : List Sighting) → AllByRecursion (AgreesIfUnwritten written cells) reads → AllByRecursion (IsUnwritten written) reads → Changes reads cells None
unwritten-agree written cells [] agree none = tt
unwritten-agree written cells (read ∷ reads) agree none = (agree.0 none.0, unwritten-agree written cells reads agree.1 none.1)
