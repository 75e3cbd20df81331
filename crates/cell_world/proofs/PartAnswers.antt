-- Tests of several parts, one after another.
use Rattle.std.proofs.Common.{◌≡◌, inl, inr, Bool, true, false, sym, ◌∙◌}
use Rattle.std.specs.Prelude.{◌↔◌, Some}
use Rattle.std.proofs.lemmas.Bool.{cases_Bool, false≢true}
use Rattle.cell_world.specs.declared.cell.Cell.{Cell}
use Rattle.cell_world.specs.declared.part.Part.{Part}
use Rattle.cell_world.specs.declared.part.Part.TheVariants.{Who, Mind, Load, Food, RedMarks, BlackMarks}
use Rattle.cell_world.specs.declared.part.Parts.{Parts}
use Rattle.cell_world.specs.Parts.{Agree, AgreeBefore, Alike, IsDifference, has_part}

-- what holds of each of the six parts holds of all
pub each_part : (P : Part → Type 0) → P Who → P Mind → P Load → P Food → P RedMarks → P BlackMarks → (k : Part) → P k
each_part P who mind load food red black Who = who
each_part P who mind load food red black Mind = mind
each_part P who mind load food red black Load = load
each_part P who mind load food red black Food = food
each_part P who mind load food red black RedMarks = red
each_part P who mind load food red black BlackMarks = black

-- two cells are equal in a part, if it is one of these
abbrev pub AgreeIn : Parts → Cell → Cell → Part → Type 0
AgreeIn parts c d k = has_part parts k ≡ true → Alike k c d

-- a test that is made where another held
pub both_hold : {A B : Type 0} {first second value : Bool} → first ≡ true → (first ≡ true) ↔ A → (second ≡ true) ↔ B → value ≡ second → (value ≡ true) ↔ (A × B)
both_hold {A} {B} {first} {second} {value} held one two is = (λ now. (one.0 held, two.0 (sym is ∙ now)), λ both. is ∙ two.1 both.1)

-- and one that isn't, since another failed
pub one_fails : {A B : Type 0} {first value : Bool} → first ≡ false → (first ≡ true) ↔ A → value ≡ first → (value ≡ true) ↔ (A × B)
one_fails {A} {B} {first} {value} failed one is = (λ now. absurd (false≢true (sym failed ∙ sym is ∙ now)), λ both. absurd (false≢true (sym failed ∙ one.1 both.0)))

-- tests of all six parts
pub six_hold : {parts : Parts} {c d : Cell} {value : Bool} → (value ≡ true) ↔ (((((AgreeIn parts c d Who × AgreeIn parts c d Mind) × AgreeIn parts c d Load) × AgreeIn parts c d Food) × AgreeIn parts c d RedMarks) × AgreeIn parts c d BlackMarks) →
    (value ≡ true) ↔ Agree parts c d
six_hold {parts} {c} {d} {value} all = (
  λ now. let it = all.0 now in each_part (AgreeIn parts c d) it.0.0.0.0.0 it.0.0.0.0.1 it.0.0.0.1 it.0.0.1 it.0.1 it.1,
  λ agree. all.1 (((((agree Who, agree Mind), agree Load), agree Food), agree RedMarks), agree BlackMarks),
)

-- if the test of a part fails and the parts before it agree, it is the first in which two cells differ
pub first_differs : (parts : Parts) (c d : Cell) (k : Part) (test : Bool) → (test ≡ true) ↔ AgreeIn parts c d k → test ≡ false → AgreeBefore k parts c d → IsDifference parts c d (Some k)
first_differs parts c d k test is failed before =
    let never : ¬ AgreeIn parts c d k = λ agree. false≢true (sym failed ∙ is.1 agree) in (
      elim (cases_Bool (has_part parts k)) [
        | inl named ↦ named
        | inr unnamed ↦ absurd (never (λ named. absurd (false≢true (sym unnamed ∙ named))))
      ],
      λ alike. never (λ named. alike),
      before,
    )
