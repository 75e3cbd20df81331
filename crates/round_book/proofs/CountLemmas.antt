-- What is counted is what holds.
use Rattle.std.proofs.Common.{◌≡◌, ⊎_elim, ◌↔◌, ℕ, zero, suc, ◌+◌, ◌-◌, ◌≤◌, Bool, true, false, not, cond, ◌&&◌, ◌||◌, nat_eq, List, [], ◌∷◌, ◌++◌, Option, Some, None, option_map, refl, sym, ◌∙◌, ap, ap₂, subst, arith}
use Rattle.std.specs.List.{AllByRecursion, count_by}
use Rattle.std.proofs.lemmas.Bool.{and_from, and_parts, eq-eqb, eqb-true, false_from_ne_true, false≢true, or_cases, or_left, or_right}
use Rattle.std.proofs.lemmas.List.Elements.{All-contains, All-from_recursion}
use Rattle.std.proofs.lemmas.List.Sums.{sum_by_push}
use Rattle.hex_geometry.specs.declared.direction.Dir.{Dir}
use Rattle.hex_geometry.specs.Direction.{dir_of, number_of}
use Rattle.hex_geometry.proofs.Turns.{dir_of_number_of}
use Rattle.cell_world.proofs.GridSums.{one_if-le_one}
use Rattle.cell_world.specs.declared.ant.Ant.{Ant}
use Rattle.cell_world.specs.declared.ant.Colour.{Colour}
use Rattle.cell_world.specs.declared.ant.Colour.TheVariants.{Red, Black}
use Rattle.cell_world.specs.declared.cell.Cell.{Cell}
use Rattle.cell_world.specs.declared.marks.Marks.{Marks}
use Rattle.cell_world.specs.declared.part.Part.{Part}
use Rattle.cell_world.specs.declared.part.Part.TheVariants.{Who, Mind, Load, Food, RedMarks, BlackMarks}
use Rattle.cell_world.specs.declared.part.Parts.{Parts}
use Rattle.cell_world.specs.Cell.{one_if}
use Rattle.cell_world.specs.Colour.{same_colour}
use Rattle.cell_world.specs.Parts.{Agree, Alike, Identity, Posture, has_part, identity_of, posture_of}
use Rattle.cell_world.specs.World.{Cells}
use Rattle.cell_world.proofs.Patches.{some_one}
use Rattle.ant_turn.specs.Rounds.{Moment}
use Rattle.spec_record.specs.Claims.{Claim, Sighting, seen_cell, seen_parts, seen_place}
use Rattle.spec_record.specs.Holds.{LookHolds}
use Rattle.spec_record.specs.Look.{LookValue}
use Rattle.spec_record.specs.Reads.{reads}
use Rattle.spec_record.proofs.Flips.{Holds-LookHolds, LookHolds-Holds}
use Rattle.round_book.specs.declared.verdict.Cause.{Cause}
use Rattle.round_book.specs.declared.verdict.Cause.TheVariants as cause
use Rattle.round_book.specs.declared.verdict.Verdict.{Verdict}
use Rattle.round_book.specs.declared.verdict.Verdict.TheVariants.{Taken, Redone}
use Rattle.round_book.specs.Counts.{counts_of, do_agree, is_alike, is_alike_if, is_taken, is_taken_verdict, is_unchanged, look_holds, same_identity, same_if_any, same_load, same_posture, taken_among}
use Rattle.round_book.specs.Window.{AreVerdicts, HoldsIn, IsVerdict, Window, guess_for, look_for, moment_before}

pub same_colour-true : (a b : Colour) → same_colour a b ≡ true → a ≡ b
same_colour-true Red Black same = absurd (false≢true same)
same_colour-true Black Red same = absurd (false≢true same)
same_colour-true it that same = refl

same_colour-self : (a : Colour) → same_colour a a ≡ true
same_colour-self Red = refl
same_colour-self Black = refl

one_if-same : (a b : Bool) → one_if a ≡ one_if b → a ≡ b
one_if-same true false same = absurd (let e : 1 ≡ 0 = same in omega arith)
one_if-same false true same = absurd (let e : 0 ≡ 1 = same in omega arith)
one_if-same it that same = refl

-- the tests of two ants
identity-test : (a b : Ant) → (same_identity a b ≡ true) ↔ (identity_of a ≡ identity_of b)
identity-test a b = (
  λ same.
      let both = and_parts (nat_eq a.id b.id) (same_colour a.colour b.colour) same in
      let made : ℕ → Colour → Identity = λ t c. record { id = t; colour = c } in
      ap₂ made (eqb-true a.id b.id both.0) (same_colour-true a.colour b.colour both.1),
  λ same. and_from (nat_eq a.id b.id) (same_colour a.colour b.colour) (eq-eqb a.id b.id (ap (λ (i : Identity). i.id) same))
      (ap (λ (i : Identity). same_colour a.colour i.colour) (sym same) ∙ same_colour-self a.colour),
)

posture-test : (a b : Ant) → (same_posture a b ≡ true) ↔ (posture_of a ≡ posture_of b)
posture-test a b = (
  λ same.
      let one = and_parts (nat_eq a.state b.state) (nat_eq a.resting b.resting && nat_eq (number_of a.facing) (number_of b.facing)) same in
      let two = and_parts (nat_eq a.resting b.resting) (nat_eq (number_of a.facing) (number_of b.facing)) one.1 in
      let made : ℕ → ℕ → Dir → Posture = λ s r f. record { state = s; resting = r; facing = f } in
      let facing : a.facing ≡ b.facing = sym (dir_of_number_of a.facing) ∙ ap dir_of (eqb-true (number_of a.facing) (number_of b.facing) two.1) ∙ dir_of_number_of b.facing in
      ap (λ s. made s a.resting a.facing) (eqb-true a.state b.state one.0) ∙ ap (λ r. made b.state r a.facing) (eqb-true a.resting b.resting two.0) ∙ ap (λ f. made b.state b.resting f) facing,
  λ same. and_from (nat_eq a.state b.state) (nat_eq a.resting b.resting && nat_eq (number_of a.facing) (number_of b.facing)) (eq-eqb a.state b.state (ap (λ (p : Posture). p.state) same))
      (and_from (nat_eq a.resting b.resting) (nat_eq (number_of a.facing) (number_of b.facing)) (eq-eqb a.resting b.resting (ap (λ (p : Posture). p.resting) same))
      (eq-eqb (number_of a.facing) (number_of b.facing) (ap (λ (p : Posture). number_of p.facing) same))),
)

load-test : (a b : Ant) → (same_load a b ≡ true) ↔ (a.laden ≡ b.laden)
load-test a b = (
  λ same. one_if-same a.laden b.laden (eqb-true (one_if a.laden) (one_if b.laden) same),
  λ same. eq-eqb (one_if a.laden) (one_if b.laden) (ap one_if same),
)

-- of ants that may not be there
any-test : {A : Type 0} (f : Ant → A) (same : Ant → Ant → Bool) → ((a b : Ant) → (same a b ≡ true) ↔ (f a ≡ f b)) → (o p : Option Ant) → (same_if_any same o p ≡ true) ↔ (option_map f o ≡ option_map f p)
any-test f same test None None = (λ e. refl, λ e. refl)
any-test f same test (Some a) (Some b) = (λ e. ap Some ((test a b).0 e), λ e. (test a b).1 (some_one e))
any-test f same test it that = (λ e. absurd (false≢true e), λ e. cc)

marks-test : (a b : Marks) → (nat_eq a.set b.set ≡ true) ↔ (a ≡ b)
marks-test a b = (
  λ same. let made : ℕ → Marks = λ s. record { set = s } in ap made (eqb-true a.set b.set same),
  λ same. eq-eqb a.set b.set (ap (λ (m : Marks). m.set) same),
)

-- of a part
pub part-test : (k : Part) (c d : Cell) → (is_alike k c d ≡ true) ↔ Alike k c d
part-test Who c d = any-test identity_of same_identity identity-test c.ant d.ant
part-test Mind c d = any-test posture_of same_posture posture-test c.ant d.ant
part-test Load c d = any-test (λ (a : Ant). a.laden) same_load load-test c.ant d.ant
part-test Food c d = (λ e. eqb-true c.food d.food e, λ e. eq-eqb c.food d.food e)
part-test RedMarks c d = marks-test c.red d.red
part-test BlackMarks c d = marks-test c.black d.black

part_if-test : (named : Bool) (k : Part) (c d : Cell) → (is_alike_if named k c d ≡ true) ↔ (named ≡ true → Alike k c d)
part_if-test true k c d = (λ e. λ _. (part-test k c d).0 e, λ f. (part-test k c d).1 (f refl))
part_if-test false k c d = (λ e. λ is. absurd (false≢true is), λ f. refl)

-- of a set of parts
pub parts-test : (parts : Parts) (c d : Cell) → (do_agree parts c d ≡ true) ↔ Agree parts c d
parts-test parts c d = (
  λ e. each e,
  λ agree. and_from _ _ ((part_if-test parts.who Who c d).1 (agree Who))
      (and_from _ _ ((part_if-test parts.mind Mind c d).1 (agree Mind))
      (and_from _ _ ((part_if-test parts.load Load c d).1 (agree Load))
      (and_from _ _ ((part_if-test parts.food Food c d).1 (agree Food))
      (and_from _ _ ((part_if-test parts.red_marks RedMarks c d).1 (agree RedMarks)) ((part_if-test parts.black_marks BlackMarks c d).1 (agree BlackMarks)))))),
) where
  each : do_agree parts c d ≡ true → (k : Part) → has_part parts k ≡ true → Alike k c d
  each e k =
      let a = and_parts (is_alike_if parts.who Who c d) _ e in
      let b = and_parts (is_alike_if parts.mind Mind c d) _ a.1 in
      let l = and_parts (is_alike_if parts.load Load c d) _ b.1 in
      let f = and_parts (is_alike_if parts.food Food c d) _ l.1 in
      let m = and_parts (is_alike_if parts.red_marks RedMarks c d) _ f.1 in
      elim k as (λ j. has_part parts j ≡ true → Alike j c d) [
        | Who ↦ (part_if-test parts.who Who c d).0 a.0
        | Mind ↦ (part_if-test parts.mind Mind c d).0 b.0
        | Load ↦ (part_if-test parts.load Load c d).0 l.0
        | Food ↦ (part_if-test parts.food Food c d).0 f.0
        | RedMarks ↦ (part_if-test parts.red_marks RedMarks c d).0 m.0
        | BlackMarks ↦ (part_if-test parts.black_marks BlackMarks c d).0 m.1
      ]

-- of all that was read
pub reads-test : (list : List Sighting) (cells : Cells) → (is_unchanged list cells ≡ true) ↔ AllByRecursion (λ read. Agree (seen_parts read) (seen_cell read) (cells (seen_place read))) list
reads-test [] cells = (λ e. tt, λ all. refl)
reads-test (read ∷ list) cells = (
  λ e. let both = and_parts (do_agree (seen_parts read) (seen_cell read) (cells (seen_place read))) (is_unchanged list cells) e in
      ((parts-test (seen_parts read) (seen_cell read) (cells (seen_place read))).0 both.0, (reads-test list cells).0 both.1),
  λ all. and_from (do_agree (seen_parts read) (seen_cell read) (cells (seen_place read))) (is_unchanged list cells) ((parts-test (seen_parts read) (seen_cell read) (cells (seen_place read))).1 all.0) ((reads-test list cells).1 all.1),
)

-- the test of a look is true exactly if the look holds
pub look_holds-test : (look : LookValue) (cells : Cells) (place : ℕ) → (look_holds look cells place ≡ true) ↔ LookHolds look cells place
look_holds-test look cells place = (
  λ e. let both = and_parts (is_unchanged look.reads cells) (not look.drew || nat_eq place look.guess) e in record {
    unchanged = (reads-test look.reads cells).0 both.0;
    guessed = λ drew. ⊎_elim (λ undrawn. absurd (false≢true (sym (ap not drew) ∙ undrawn))) (λ same. eqb-true place look.guess same) (or_cases (not look.drew) (nat_eq place look.guess) both.1);
  },
  λ holds. and_from (is_unchanged look.reads cells) (not look.drew || nat_eq place look.guess) ((reads-test look.reads cells).1 holds.unchanged) (place_test look.drew refl holds.guessed),
) where
  place_test : (b : Bool) → look.drew ≡ b → (look.drew ≡ true → place ≡ look.guess) → (not look.drew || nat_eq place look.guess) ≡ true
  place_test true is guessed = or_right (not look.drew) (nat_eq place look.guess) (eq-eqb place look.guess (guessed is))
  place_test false is guessed = or_left (not look.drew) (nat_eq place look.guess) (ap not is)

-- a turn counts as taken exactly if its look holds when its turn comes
pub is_taken-test : (window : Window) (t : ℕ) → (is_taken window t ≡ true) ↔ HoldsIn window (moment_before window t) t
unfolding is_taken look_for
is_taken-test window t =
    let now : Moment = moment_before window t in (
      λ e. LookHolds-Holds window.minds window.seed window.base (guess_for window t) now.world now.place t ((look_holds-test (look_for window t) now.world.cells now.place).0 e),
      λ holds. (look_holds-test (look_for window t) now.world.cells now.place).1 (Holds-LookHolds window.minds window.seed window.base (guess_for window t) now.world now.place t holds),
    )

-- a verdict that a turn was executed again refutes that its look holds
pub Redone-refutes : (window : Window) (now : Moment) (t : ℕ) (found : Cause) → IsVerdict window now t (Redone found) → ¬ HoldsIn window now t
Redone-refutes window now t (cause.Part at k) other holds =
    let agree = All-contains (λ (read : Claim). Agree read.parts (window.base.cells read.at) (now.world.cells read.at)) (reads window.minds window.base t) other.read
    (All-from_recursion (λ (read : Claim). Agree read.parts (window.base.cells read.at) (now.world.cells read.at)) (reads window.minds window.base t) holds.unchanged) other.is_read in
    other.differs (subst (λ p. Alike k (window.base.cells p) (now.world.cells p)) other.here (agree k other.named))
Redone-refutes window now t (cause.Place guessed actual) elsewhere holds =
    elsewhere.differs (elsewhere.is_actual ∙ holds.guessed elsewhere.flips ∙ sym elsewhere.is_guess)

-- a verdict says whether the turn counts as taken
verdict-counts : (window : Window) (t : ℕ) (verdict : Verdict) → IsVerdict window (moment_before window t) t verdict → is_taken_verdict verdict ≡ is_taken window t
verdict-counts window t Taken said = sym ((is_taken-test window t).1 said)
verdict-counts window t (Redone found) said = sym (false_from_ne_true (is_taken window t) (λ e. Redone-refutes window (moment_before window t) t found said ((is_taken-test window t).0 e)))

-- one verdict more
pub verdicts-more : (verdicts : List Verdict) (last : Verdict) → count_by is_taken_verdict (verdicts ++ last ∷ []) ≡ count_by is_taken_verdict verdicts + one_if (is_taken_verdict last)
verdicts-more verdicts last = sum_by_push (λ verdict. cond (is_taken_verdict verdict) 1 0) verdicts last ∙ ap (λ n. count_by is_taken_verdict verdicts + n) (one (is_taken_verdict last))
  where
    one : (b : Bool) → cond b 1 0 ≡ one_if b
    one true = refl
    one false = refl

-- the verdicts of turns count them
pub verdicts-counts : (window : Window) (n : ℕ) (verdicts : List Verdict) → AreVerdicts window n verdicts → count_by is_taken_verdict verdicts ≡ taken_among window n
verdicts-counts window zero verdicts are = ap (count_by is_taken_verdict) are
verdicts-counts window (suc n) verdicts (before, last, is, rest, said) =
    ap (count_by is_taken_verdict) is
    ∙ verdicts-more before last
    ∙ ap₂ (λ x y. x + y) (verdicts-counts window n before rest) (ap one_if (verdict-counts window (window.from + n) last said))

-- no more looks are taken than there are turns
taken_among-le : (window : Window) (n : ℕ) → taken_among window n ≤ n
taken_among-le window zero = omega arith
taken_among-le window (suc n) =
    let rest : taken_among window n ≤ n = taken_among-le window n in
    let one : one_if (is_taken window (window.from + n)) ≤ 1 = one_if-le_one (is_taken window (window.from + n)) in
    omega arith

-- those that are taken and those that aren't are all
pub counts-add_up : (window : Window) → (counts_of window).taken + (counts_of window).redone ≡ window.to - window.from
unfolding counts_of
counts-add_up window =
    let few : taken_among window (window.to - window.from) ≤ window.to - window.from = taken_among-le window (window.to - window.from) in
    omega arith
