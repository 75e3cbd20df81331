-- the parts one by one
use Rattle.std.proofs.Common.{◌≡◌, Bool, true, false, if◌then◌else◌, ◌||◌, refl, ◌∙◌, ap}
use Rattle.cell_world.specs.declared.part.Parts.{Parts}
use Rattle.cell_world.specs.declared.part.Part.{Part}
use Rattle.cell_world.specs.declared.part.Part.TheVariants as part
use Rattle.cell_world.specs.Parts.{has_part, union, with_part}
use Rattle.spec_record.proofs.sightings.union.Goals as goal

-- a set with this part where another set has it
abbrev with_if : Parts → Parts → Part → Parts
with_if parts other k = if has_part other k then with_part parts k else parts

or-true : (x : Bool) → true ≡ (x || true)
or-true true = refl
or-true false = refl

or-false : (x : Bool) → x ≡ (x || false)
or-false true = refl
or-false false = refl

with_who : (a : Parts) (b : Bool) → (if b then record a { who = true } else a) ≡ record a { who = a.who || b }
with_who a true = ap (λ x. record a { who = x }) (or-true a.who)
with_who a false = ap (λ x. record a { who = x }) (or-false a.who)

with_mind : (a : Parts) (b : Bool) → (if b then record a { mind = true } else a) ≡ record a { mind = a.mind || b }
with_mind a true = ap (λ x. record a { mind = x }) (or-true a.mind)
with_mind a false = ap (λ x. record a { mind = x }) (or-false a.mind)

with_load : (a : Parts) (b : Bool) → (if b then record a { load = true } else a) ≡ record a { load = a.load || b }
with_load a true = ap (λ x. record a { load = x }) (or-true a.load)
with_load a false = ap (λ x. record a { load = x }) (or-false a.load)

with_food : (a : Parts) (b : Bool) → (if b then record a { food = true } else a) ≡ record a { food = a.food || b }
with_food a true = ap (λ x. record a { food = x }) (or-true a.food)
with_food a false = ap (λ x. record a { food = x }) (or-false a.food)

with_red_marks : (a : Parts) (b : Bool) → (if b then record a { red_marks = true } else a) ≡ record a { red_marks = a.red_marks || b }
with_red_marks a true = ap (λ x. record a { red_marks = x }) (or-true a.red_marks)
with_red_marks a false = ap (λ x. record a { red_marks = x }) (or-false a.red_marks)

with_black_marks : (a : Parts) (b : Bool) → (if b then record a { black_marks = true } else a) ≡ record a { black_marks = a.black_marks || b }
with_black_marks a true = ap (λ x. record a { black_marks = x }) (or-true a.black_marks)
with_black_marks a false = ap (λ x. record a { black_marks = x }) (or-false a.black_marks)

all_parts : (a b : Parts) → with_if (with_if (with_if (with_if (with_if (with_if a b part.Who) b part.Mind) b part.Load) b part.Food) b part.RedMarks) b part.BlackMarks ≡ union a b
all_parts a b =
    let one : Parts = record a { who = a.who || b.who } in
    let two : Parts = record one { mind = one.mind || b.mind } in
    let three : Parts = record two { load = two.load || b.load } in
    let four : Parts = record three { food = three.food || b.food } in
    let five : Parts = record four { red_marks = four.red_marks || b.red_marks } in
    ap (λ s. with_if (with_if (with_if (with_if (with_if s b part.Mind) b part.Load) b part.Food) b part.RedMarks) b part.BlackMarks) (with_who a b.who)
    ∙ ap (λ s. with_if (with_if (with_if (with_if s b part.Load) b part.Food) b part.RedMarks) b part.BlackMarks) (with_mind one b.mind)
    ∙ ap (λ s. with_if (with_if (with_if s b part.Food) b part.RedMarks) b part.BlackMarks) (with_load two b.load)
    ∙ ap (λ s. with_if (with_if s b part.RedMarks) b part.BlackMarks) (with_food three b.food)
    ∙ ap (λ s. with_if s b part.BlackMarks) (with_red_marks four b.red_marks)
    ∙ with_black_marks five b.black_marks

pub returns : goal.returns
returns c =
    rw (c.with_if.ensures, c.with_if-all-5.ensures, c.with_if-all-4.ensures, c.with_if-all-3.ensures, c.with_if-all-2.ensures, c.with_if-all.ensures) (all_parts c.args.a c.args.b)
