-- There is always something that may be said of a turn.
use Rattle.std.proofs.Common.{◌≡◌, ◌⊎◌, ⊎_elim, ℕ, Bool, true, false, not, ◌||◌, nat_eq, List, [], ◌∷◌, refl, sym, ◌∙◌, arith}
use Rattle.std.proofs.lemmas.Bool.{and_cases, eq-eqb, false≢true, or_parts}
use Rattle.std.proofs.lemmas.List.Elements.{Contains-append_right}
use Rattle.hex_geometry.specs.declared.position.Pos.{Pos}
use Rattle.cell_world.specs.declared.cell.Cell.{Cell}
use Rattle.cell_world.specs.declared.part.Part.{Part}
use Rattle.cell_world.specs.declared.part.Part.TheVariants.{Who, Mind, Load, Food, RedMarks, BlackMarks}
use Rattle.cell_world.specs.declared.part.Parts.{Parts}
use Rattle.cell_world.specs.Parts.{Alike, has_part}
use Rattle.cell_world.specs.World.{Cells}
use Rattle.ant_turn.specs.Rounds.{Moment}
use Rattle.spec_record.specs.Claims.{Sighting, seen_cell, seen_parts, seen_place}
use Rattle.spec_record.specs.Look.{LookValue}
use Rattle.spec_record.proofs.Flips.{Holds-LookHolds, LookHolds-Holds}
use Rattle.round_book.specs.declared.verdict.Cause.{Cause}
use Rattle.round_book.specs.declared.verdict.Cause.TheVariants as cause
use Rattle.round_book.specs.declared.verdict.Verdict.{Verdict}
use Rattle.round_book.specs.declared.verdict.Verdict.TheVariants.{Taken, Redone}
use Rattle.round_book.specs.Book.{IsCause, IsChanged}
use Rattle.round_book.specs.Counts.{do_agree, is_alike, is_alike_if, is_unchanged, look_holds}
use Rattle.round_book.specs.MachineLaws.{PutTurnsSettle}
use Rattle.round_book.specs.Window.{HoldsIn, IsVerdict, Window, guess_for, look_for}
use Rattle.round_book.proofs.BookLemmas.{IsVerdict-cause}
use Rattle.round_book.proofs.CountLemmas.{look_holds-test, part-test, reads-test}

not_fails : (x : Bool) → not x ≡ false → x ≡ true
not_fails true fails = refl
not_fails false fails = absurd (false≢true (sym fails))

-- a part of a set that differs
record Differs (parts : Parts) (c d : Cell) : Type 0 where
  pub which : Part
  pub named : has_part parts which ≡ true
  pub differs : ¬ Alike which c d

-- if two cells differ in a part, they aren't alike in it
pub unlike : (k : Part) (c d : Cell) → is_alike k c d ≡ false → ¬ Alike k c d
unlike k c d fails alike = false≢true (sym fails ∙ (part-test k c d).1 alike)

unlike_if : (named : Bool) (k : Part) (c d : Cell) → is_alike_if named k c d ≡ false → (named ≡ true) × ¬ Alike k c d
unlike_if true k c d fails = (refl, unlike k c d fails)
unlike_if false k c d fails = absurd (false≢true (sym fails))

differs_in : (parts : Parts) (c d : Cell) (k : Part) → is_alike_if (has_part parts k) k c d ≡ false → Differs parts c d
differs_in parts c d k fails =
    let both = unlike_if (has_part parts k) k c d fails in
    record { which = k; named = both.0; differs = both.1 }

find_part : (parts : Parts) (c d : Cell) → do_agree parts c d ≡ false → Differs parts c d
find_part parts c d fails = ⊎_elim (differs_in parts c d Who) (λ a.
    ⊎_elim (differs_in parts c d Mind) (λ b.
    ⊎_elim (differs_in parts c d Load) (λ e.
    ⊎_elim (differs_in parts c d Food) (λ f.
    ⊎_elim (differs_in parts c d RedMarks) (differs_in parts c d BlackMarks)
    (and_cases (is_alike_if parts.red_marks RedMarks c d) (is_alike_if parts.black_marks BlackMarks c d) f))
    (and_cases (is_alike_if parts.food Food c d) _ e))
    (and_cases (is_alike_if parts.load Load c d) _ b))
    (and_cases (is_alike_if parts.mind Mind c d) _ a))
    (and_cases (is_alike_if parts.who Who c d) _ fails)

-- a position that was read, and a part of it that differs
record Change (reads : List Sighting) (cells : Cells) : Type 0 where
  pub at : Pos
  pub which : Part
  pub is_changed : IsChanged reads cells at which

first_change : (read : Sighting) (reads : List Sighting) (cells : Cells) → do_agree (seen_parts read) (seen_cell read) (cells (seen_place read)) ≡ false → Change (read ∷ reads) cells
first_change read reads cells fails =
    let other = find_part (seen_parts read) (seen_cell read) (cells (seen_place read)) fails in
    record { at = seen_place read; which = other.which; is_changed = record { read = read; is_read = (0, omega arith, refl); here = refl; named = other.named; differs = other.differs } }

later_change : (read : Sighting) (reads : List Sighting) (cells : Cells) → Change reads cells → Change (read ∷ reads) cells
later_change read reads cells change = record {
  at = change.at;
  which = change.which;
  is_changed = record {
    read = change.is_changed.read;
    is_read = Contains-append_right (read ∷ []) reads change.is_changed.read change.is_changed.is_read;
    here = change.is_changed.here;
    named = change.is_changed.named;
    differs = change.is_changed.differs;
  };
}

find_change : (reads : List Sighting) (cells : Cells) → is_unchanged reads cells ≡ false → Change reads cells
find_change [] cells fails = absurd (false≢true (sym fails))
find_change (read ∷ reads) cells fails = ⊎_elim
    (first_change read reads cells)
    (λ later. later_change read reads cells (find_change reads cells later))
    (and_cases (do_agree (seen_parts read) (seen_cell read) (cells (seen_place read))) (is_unchanged reads cells) fails)

-- why a look doesn't hold
find_move : (look : LookValue) (now : Moment) → is_unchanged look.reads now.world.cells ≡ true → (not look.drew || nat_eq now.place look.guess) ≡ false → (found : Cause) × IsCause look now found
find_move look now same fails =
    let both = or_parts (not look.drew) (nat_eq now.place look.guess) fails in (
      cause.Place look.guess now.place,
      record {
        unchanged = (reads-test look.reads now.world.cells).0 same;
        drew = not_fails look.drew both.0;
        is_guess = refl;
        is_actual = refl;
        differs = λ e. false≢true (sym both.1 ∙ eq-eqb now.place look.guess e);
      },
    )

find_cause : (look : LookValue) (now : Moment) → look_holds look now.world.cells now.place ≡ false → (found : Cause) × IsCause look now found
find_cause look now fails = ⊎_elim
    (λ changed. changed_so (find_change look.reads now.world.cells changed))
    (λ moved. go moved (is_unchanged look.reads now.world.cells) refl)
    (and_cases (is_unchanged look.reads now.world.cells) (not look.drew || nat_eq now.place look.guess) fails)
  where
    changed_so : Change look.reads now.world.cells → (found : Cause) × IsCause look now found
    changed_so change = (cause.Part change.at change.which, change.is_changed)

    go : (not look.drew || nat_eq now.place look.guess) ≡ false → (b : Bool) → is_unchanged look.reads now.world.cells ≡ b → (found : Cause) × IsCause look now found
    go moved true is = find_move look now is moved
    go moved false is = changed_so (find_change look.reads now.world.cells is)

-- a look that passes its test holds
pub held : (window : Window) (now : Moment) (t : ℕ) → look_holds (look_for window t) now.world.cells now.place ≡ true → HoldsIn window now t
unfolding look_for
held window now t is =
    LookHolds-Holds window.minds window.seed window.base (guess_for window t) now.world now.place t ((look_holds-test (look_for window t) now.world.cells now.place).0 is)

-- and one that fails it doesn't
pub not_held : (window : Window) (now : Moment) (t : ℕ) → look_holds (look_for window t) now.world.cells now.place ≡ false → ¬ HoldsIn window now t
unfolding look_for
not_held window now t fails holds =
    false≢true (sym fails ∙ (look_holds-test (look_for window t) now.world.cells now.place).1 (Holds-LookHolds window.minds window.seed window.base (guess_for window t) now.world now.place t holds))

pub find_verdict : (window : Window) (now : Moment) (t : ℕ) → (verdict : Verdict) × IsVerdict window now t verdict
find_verdict window now t = go (look_holds (look_for window t) now.world.cells now.place) refl where
  go : (b : Bool) → look_holds (look_for window t) now.world.cells now.place ≡ b → (verdict : Verdict) × IsVerdict window now t verdict
  go true is = (Taken, held window now t is)
  go false is =
      let why = find_cause (look_for window t) now is in
      (Redone why.0, IsVerdict-cause window now t why.0 why.1)

pub put_turns_settle : PutTurnsSettle
put_turns_settle window state below is_put =
    let said = find_verdict window state.now state.next in
    (said.0, record { in_window = below; is_put = is_put; is_verdict = said.1 })
