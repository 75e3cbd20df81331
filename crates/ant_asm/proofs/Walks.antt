-- A walk over the bodies of a program, step by step.
use Rattle.std.proofs.Common.{◌≡◌, ℕ, suc, ◌+◌, ◌<◌, ◌≤◌, List, [], ◌∷◌, ◌++◌, drop, length, Option, Some, refl, sym, ap, ap₂, ◌∙◌, subst, arith, append_assoc, append-nil}
use Rattle.std.specs.Prelude.{◌==◌, if◌then◌else◌, slice_get, slice_index_or, Vec}
use Rattle.std.specs.List.{AllByRecursion}
use Rattle.std.specs.declared.alloc.Global.{Global}
use Rattle.std.proofs.lemmas.List.{drop_more, length_push}
use Rattle.std.proofs.Math.ListN.{drop_of_length-le}
use Rattle.arrayvec.specs.ArrayVec.{ArrayVec}
use Rattle.list_lemmas.proofs.AllElements.{AllByRecursion-weaker}
use Rattle.ant_asm.specs.declared.level.Level.{Level}
use Rattle.ant_asm.specs.declared.level.Spot.{Spot}
use Rattle.ant_asm.specs.declared.named.NamedBody.{NamedBody}
use Rattle.ant_asm.specs.declared.named.NamedLine.{NamedLine}
use Rattle.ant_asm.specs.declared.walk.Met.TheVariants.{Nothing, Body}
use Rattle.ant_asm.specs.declared.walk.Walk.{Walk}
use Rattle.ant_asm.specs.Labels.{LabelState, Outline, WayStep}
use Rattle.ant_asm.specs.StateLines.{StateLine}
use Rattle.ant_asm.specs.Labels.Outline.{Closed}
use Rattle.ant_asm.specs.Inner.Flat.{most}
use Rattle.ant_asm.specs.Inner.Outlines.{AreGoodNamed, AreListed, IsUseBelow, all_states, counted_from, further, inner_states, line_before, line_size, lines_before, main_of, outline_at, outline_size, outlines_of, own_states, state_at, told_lines}
use Rattle.ant_asm.specs.Inner.Walks.{AreLevelsIn, IsNext, IsSpotIn, IsStep, IsWalk, labels_from, labels_left, left_in, left_of, line_and, lines_at, lines_from, lines_left, met_labels, rest_at, rest_in, steps_after, steps_in}
use Rattle.ant_asm.specs.Inner.Ways.{step_of, steps_of}
use Rattle.ant_asm.proofs.FlatLemmas.{all_at, read_at}
use Rattle.ant_asm.proofs.LabelSteps.{inner-split, line-size, line_states, lines-split, the_named, used_states}
use Rattle.ant_asm.proofs.LabelWalk.{state-is}
use Rattle.ant_asm.proofs.Lefts.{left_by-last}
use Rattle.ant_asm.proofs.OutlineLemmas.{IsNamedAt, line_before-size, named-at, use_below-more}

-- the lines that aren't labels
abbrev pub items_in : List NamedLine → List NamedLine
items_in [] = []
items_in (NamedLine.Label name ∷ lines) = items_in lines
items_in (NamedLine.Instruction line ∷ lines) = NamedLine.Instruction line ∷ items_in lines
items_in (NamedLine.Use line name block ∷ lines) = NamedLine.Use line name block ∷ items_in lines

slice_get-behind : {A : Type 0} (front : List A) (x : A) (back : List A) → slice_get (front ++ x ∷ back) (length front) ≡ Some x
slice_get-behind [] x back = refl
slice_get-behind (y ∷ front) x back = slice_get-behind front x back

-- they have the places that are counted
lines_at-items : (front rest : List NamedLine) → lines_at (front ++ rest) (counted_from (length front) rest) ≡ items_in rest
lines_at-items front [] = refl
lines_at-items front (NamedLine.Label name ∷ rest) = moved front (NamedLine.Label name) rest (lines_at-items (front ++ NamedLine.Label name ∷ []) rest)
  where
    moved : (front : List NamedLine) (line : NamedLine) (rest : List NamedLine) → lines_at ((front ++ line ∷ []) ++ rest) (counted_from (length (front ++ line ∷ [])) rest) ≡ items_in rest →
        lines_at (front ++ line ∷ rest) (counted_from (suc (length front)) rest) ≡ items_in rest
    moved front line rest later =
        ap₂ (λ (l : List NamedLine) (n : ℕ). lines_at l (counted_from n rest)) (sym (append_assoc front (line ∷ []) rest)) (let more = length_push front line in let e : suc (length front) ≡ length (front ++ line ∷ []) = omega (arith, more) in e)
        ∙ later
lines_at-items front (NamedLine.Instruction line ∷ rest) = one front (NamedLine.Instruction line) rest (lines_at-items (front ++ NamedLine.Instruction line ∷ []) rest)
  where
    one : (front : List NamedLine) (line : NamedLine) (rest : List NamedLine) → lines_at ((front ++ line ∷ []) ++ rest) (counted_from (length (front ++ line ∷ [])) rest) ≡ items_in rest →
        lines_at (front ++ line ∷ rest) (length front ∷ counted_from (suc (length front)) rest) ≡ line ∷ items_in rest
    one front line rest later =
        ap (λ (o : Option NamedLine). line_and o (lines_at (front ++ line ∷ rest) (counted_from (suc (length front)) rest))) (slice_get-behind front line rest)
        ∙ ap (λ (l : List NamedLine). line ∷ l)
        (ap₂ (λ (l : List NamedLine) (n : ℕ). lines_at l (counted_from n rest)) (sym (append_assoc front (line ∷ []) rest)) (let more = length_push front line in let e : suc (length front) ≡ length (front ++ line ∷ []) = omega (arith, more) in e)
        ∙ later)
lines_at-items front (NamedLine.Use number name block ∷ rest) = one front (NamedLine.Use number name block) rest (lines_at-items (front ++ NamedLine.Use number name block ∷ []) rest)
  where
    one : (front : List NamedLine) (line : NamedLine) (rest : List NamedLine) → lines_at ((front ++ line ∷ []) ++ rest) (counted_from (length (front ++ line ∷ [])) rest) ≡ items_in rest →
        lines_at (front ++ line ∷ rest) (length front ∷ counted_from (suc (length front)) rest) ≡ line ∷ items_in rest
    one front line rest later =
        ap (λ (o : Option NamedLine). line_and o (lines_at (front ++ line ∷ rest) (counted_from (suc (length front)) rest))) (slice_get-behind front line rest)
        ∙ ap (λ (l : List NamedLine). line ∷ l)
        (ap₂ (λ (l : List NamedLine) (n : ℕ). lines_at l (counted_from n rest)) (sym (append_assoc front (line ∷ []) rest)) (let more = length_push front line in let e : suc (length front) ≡ length (front ++ line ∷ []) = omega (arith, more) in e)
        ∙ later)

counted-inside : (place : ℕ) (lines : List NamedLine) → AllByRecursion (λ (p : ℕ). p < place + length lines) (counted_from place lines)
counted-inside place [] = tt
counted-inside place (NamedLine.Label name ∷ lines) = AllByRecursion-weaker (λ (p : ℕ). p < suc place + length lines) (λ (p : ℕ). p < place + suc (length lines)) (counted_from (suc place) lines) (counted-inside (suc place) lines) (λ p inside. omega (arith, inside))
counted-inside place (NamedLine.Instruction line ∷ lines) =
    (omega arith, AllByRecursion-weaker (λ (p : ℕ). p < suc place + length lines) (λ (p : ℕ). p < place + suc (length lines)) (counted_from (suc place) lines) (counted-inside (suc place) lines) (λ p inside. omega (arith, inside)))
counted-inside place (NamedLine.Use line name block ∷ lines) =
    (omega arith, AllByRecursion-weaker (λ (p : ℕ). p < suc place + length lines) (λ (p : ℕ). p < place + suc (length lines)) (counted_from (suc place) lines) (counted-inside (suc place) lines) (λ p inside. omega (arith, inside)))

-- without the labels the same number of instructions is reported, and no more steps are left
module _ (blocks : List Outline) where
  abbrev bare : List NamedLine → Outline
  bare lines = lines_before blocks (items_in lines) Closed

  abbrev full : List NamedLine → Outline
  full lines = lines_before blocks lines Closed

  bare-size : (lines : List NamedLine) → outline_size (bare lines) ≡ outline_size (full lines)
  bare-size [] = refl
  bare-size (NamedLine.Label name ∷ lines) = bare-size lines
  bare-size (NamedLine.Instruction line ∷ lines) = ap suc (bare-size lines)
  bare-size (NamedLine.Use line name block ∷ lines) = ap (λ (n : ℕ). outline_size (slice_index_or blocks block Closed) + n) (bare-size lines)

  bare-lines : (lines : List NamedLine) (at : ℕ) (way : List WayStep) → told_lines (bare lines) at way ≡ told_lines (full lines) at way
  bare-lines [] at way = refl
  bare-lines (NamedLine.Label name ∷ lines) at way = bare-lines lines at way
  bare-lines (NamedLine.Instruction line ∷ lines) at way = ap (λ (l : List StateLine). (let one : StateLine = record { state = at; line = line; way = way } in one) ∷ l) (bare-lines lines (at + 1) way)
  bare-lines (NamedLine.Use line name block ∷ lines) at way =
      ap (λ (l : List StateLine). told_lines (slice_index_or blocks block Closed) at (further way name.items line) ++ l) (bare-lines lines (at + outline_size (slice_index_or blocks block Closed)) way)

  bare-labels : (lines : List NamedLine) (at after : ℕ) (way : List WayStep) → inner_states (bare lines) at after way ≡ inner_states (full lines) at after way
  bare-labels [] at after way = refl
  bare-labels (NamedLine.Label name ∷ lines) at after way = bare-labels lines at after way
  bare-labels (NamedLine.Instruction line ∷ lines) at after way = bare-labels lines (at + 1) after way
  bare-labels (NamedLine.Use line name block ∷ lines) at after way =
      ap₂ (λ (n : ℕ) (l : List LabelState). all_states (slice_index_or blocks block Closed) at (state_at n (at + outline_size (slice_index_or blocks block Closed)) after) (further way name.items line) ++ l)
      (bare-size lines) (bare-labels lines (at + outline_size (slice_index_or blocks block Closed)) after way)

  bare-steps : (lines : List NamedLine) → steps_in (bare lines) ≤ steps_in (full lines)
  bare-steps [] = omega arith
  bare-steps (NamedLine.Label name ∷ lines) = let later = bare-steps lines in omega (arith, later)
  bare-steps (NamedLine.Instruction line ∷ lines) = let later = bare-steps lines in omega (arith, later)
  bare-steps (NamedLine.Use line name block ∷ lines) = let later = bare-steps lines in omega (arith, later)

-- a body that begins reports all of itself
module _ (bodies : List NamedBody) (spot : Spot) (body : NamedBody) (good : AreGoodNamed [] bodies) (there : slice_get bodies spot.number ≡ Some body) where
  named : IsNamedAt bodies spot.number body
  named = named-at bodies spot.number body there good

  module _ (first : spot.place ≡ 0) where
    begins : rest_at bodies spot ≡ lines_before (outlines_of bodies) (items_in body.lines.items) Closed
    begins =
        ap₂ (λ (b : Option NamedBody) (k : ℕ). rest_in (outlines_of bodies) b k) there first
        ∙ ap (λ (l : List NamedLine). lines_before (outlines_of bodies) l Closed) (ap (lines_at body.lines.items) named.counted ∙ lines_at-items [] body.lines.items)

    pub begins-size : outline_size (rest_at bodies spot) ≡ outline_size (outline_at bodies spot.number)
    begins-size = ap outline_size begins ∙ bare-size (outlines_of bodies) body.lines.items ∙ ap outline_size (sym named.is)

    pub begins-lines : (way : List WayStep) → lines_from bodies spot way ≡ told_lines (outline_at bodies spot.number) spot.at way
    begins-lines way =
        ap (λ (o : Outline). told_lines o spot.at way) begins ∙ bare-lines (outlines_of bodies) body.lines.items spot.at way ∙ ap (λ (o : Outline). told_lines o spot.at way) (sym named.is)

    pub begins-labels : (way : List WayStep) → labels_from bodies spot way ≡ inner_states (outline_at bodies spot.number) spot.at spot.after way
    begins-labels way =
        ap (λ (o : Outline). inner_states o spot.at spot.after way) begins ∙ bare-labels (outlines_of bodies) body.lines.items spot.at spot.after way
        ∙ ap (λ (o : Outline). inner_states o spot.at spot.after way) (sym named.is)

    pub begins-steps : steps_in (rest_at bodies spot) ≤ steps_in (outline_at bodies spot.number)
    begins-steps =
        let one : steps_in (rest_at bodies spot) ≡ steps_in (lines_before (outlines_of bodies) (items_in body.lines.items) Closed) = ap steps_in begins in
        let two = bare-steps (outlines_of bodies) body.lines.items in
        let three : steps_in (outline_at bodies spot.number) ≡ steps_in (lines_before (outlines_of bodies) body.lines.items Closed) = ap steps_in named.is in
        omega (arith, one, two, three)

  -- its end
  pub rest-end : length body.counted.items ≤ spot.place → rest_at bodies spot ≡ Closed
  rest-end past =
      ap (λ (b : Option NamedBody). rest_in (outlines_of bodies) b spot.place) there
      ∙ ap (λ (l : List ℕ). lines_before (outlines_of bodies) (lines_at body.lines.items l) Closed) (drop_of_length-le body.counted.items past)

  -- one of its items
  module _ (place : ℕ) (inside : spot.place < length body.counted.items) (is : place ≡ slice_index_or body.counted.items spot.place place) where
    pub place-inside : place < length body.lines.items
    place-inside =
        let there : slice_get body.counted.items spot.place ≡ Some place = read_at body.counted.items spot.place place inside is in
        let one = all_at (λ (p : ℕ). p < 0 + length body.lines.items) body.counted.items spot.place place
        (subst (AllByRecursion (λ (p : ℕ). p < 0 + length body.lines.items)) (sym named.counted) (counted-inside 0 body.lines.items)) there in
        omega (arith, one)

    module _ (line : NamedLine) (at : line ≡ slice_index_or body.lines.items place line) where
      pub item-below : IsUseBelow spot.number line
      item-below = all_at (IsUseBelow spot.number) body.lines.items place line named.uses (read_at body.lines.items place line place-inside at)

      pub rest-item : (behind : Spot) → behind.number ≡ spot.number → behind.place ≡ spot.place + 1 → rest_at bodies spot ≡ line_before (outlines_of bodies) line (rest_at bodies behind)
      rest-item behind same next =
          ap (λ (b : Option NamedBody). rest_in (outlines_of bodies) b spot.place) there
          ∙ ap (λ (l : List ℕ). lines_before (outlines_of bodies) (lines_at body.lines.items l) Closed) (drop_more body.counted.items spot.place place inside ∙ ap (λ (p : ℕ). p ∷ drop (spot.place + 1) body.counted.items) (sym is))
          ∙ ap (λ (o : Option NamedLine). lines_before (outlines_of bodies) (line_and o (lines_at body.lines.items (drop (spot.place + 1) body.counted.items))) Closed) (read_at body.lines.items place line place-inside at)
          ∙ ap (line_before (outlines_of bodies) line)
          (sym (ap₂ (λ (n k : ℕ). rest_in (outlines_of bodies) (slice_get bodies n) k) same next ∙ ap (λ (b : Option NamedBody). rest_in (outlines_of bodies) b (spot.place + 1)) there))

      module _ (depth : ℕ) (it : IsSpotIn bodies depth spot) where
        abbrev spot-behind : ℕ → Spot
        spot-behind size = record { number = spot.number; place = spot.place + 1; at = spot.at + size; end = spot.end; after = spot.after }

        pub item-few : spot.at + outline_size (line_before (outlines_of bodies) line Closed) ≤ most
        item-few =
            let all : outline_size (rest_at bodies spot) ≡ outline_size (line_before (outlines_of bodies) line Closed) + outline_size (rest_at bodies (spot-behind 0)) =
            ap outline_size (rest-item (spot-behind 0) refl refl) ∙ line_before-size (outlines_of bodies) line (rest_at bodies (spot-behind 0)) in
            let ends = it.ends in let few = it.few in omega (arith, all, ends, few)

        pub item-known : IsUseBelow (length bodies) line
        item-known = use_below-more spot.number (length bodies) (let known = it.known in omega (arith, known)) line item-below

        pub item-size : line_size bodies line ≡ outline_size (line_before (outlines_of bodies) line Closed)
        item-size = line-size bodies line good item-known (let few = item-few in omega (arith, few))

        pub item-next : (size : ℕ) → size ≡ line_size bodies line → IsNext bodies spot line (spot-behind size)
        item-next size is = record {
          number = refl;
          at = ap (λ (n : ℕ). spot.at + n) (is ∙ item-size);
          end = refl;
          after = refl;
          below = item-below;
          rest = rest-item (spot-behind size) refl refl;
        }

-- the last of the bodies that were left
pub left-last : {A : Type 0} (tell : Spot → List WayStep → List A) (front : List Level) (level : Level) (way : List WayStep) →
    left_in tell (front ++ level ∷ []) way ≡ tell level.spot (way ++ steps_of front) ++ left_in tell front way
left-last tell front level way = left_by-last step_of (λ level way. tell level.spot way) front level way

pub steps-last : (bodies : List NamedBody) (front : List Level) (level : Level) → steps_after bodies (front ++ level ∷ []) ≡ steps_after bodies front + steps_in (rest_at bodies level.spot)
steps-last bodies [] level = omega arith
steps-last bodies (outer ∷ front) level = let later = steps-last bodies front level in omega (arith, later)

steps_of-last : (front : List Level) (level : Level) → steps_of (front ++ level ∷ []) ≡ steps_of front ++ step_of level ∷ []
steps_of-last [] level = refl
steps_of-last (outer ∷ front) level = ap (λ (l : List WayStep). step_of outer ∷ l) (steps_of-last front level)

pub levels-last : (bodies : List NamedBody) (depth : ℕ) (front : List Level) (level : Level) → AreLevelsIn bodies depth (front ++ level ∷ []) → AreLevelsIn bodies depth front × IsSpotIn bodies (depth + length front) level.spot
levels-last bodies depth [] level are = (tt, subst (λ (n : ℕ). IsSpotIn bodies n level.spot) (let e : depth ≡ depth + 0 = omega arith in e) are.0)
levels-last bodies depth (outer ∷ front) level are =
    let later = levels-last bodies (suc depth) front level are.1 in
    ((are.0, later.0), subst (λ (n : ℕ). IsSpotIn bodies n level.spot) (let e : suc depth + length front ≡ depth + suc (length front) = omega arith in e) later.1)

pub levels-push : (bodies : List NamedBody) (depth : ℕ) (front : List Level) (level : Level) → AreLevelsIn bodies depth front → IsSpotIn bodies (depth + length front) level.spot → AreLevelsIn bodies depth (front ++ level ∷ [])
levels-push bodies depth [] level are one = (subst (λ (n : ℕ). IsSpotIn bodies n level.spot) (let e : depth + 0 ≡ depth = omega arith in e) one, tt)
levels-push bodies depth (outer ∷ front) level are one =
    (are.0, levels-push bodies (suc depth) front level are.1 (subst (λ (n : ℕ). IsSpotIn bodies n level.spot) (let e : depth + suc (length front) ≡ suc depth + length front = omega arith in e) one))

-- main begins
pub begin-good : (walk : Walk) → AreListed walk.bodies.now → walk.outer.items ≡ [] → walk.spot.number ≡ main_of walk.bodies.now → walk.spot.place ≡ 0 → walk.spot.at ≡ 0 →
    walk.spot.end ≡ outline_size (outline_at walk.bodies.now (main_of walk.bodies.now)) → IsWalk walk
begin-good walk is none main first at end =
    let some = is.some in
    let known : walk.spot.number < length walk.bodies.now = omega (arith, some, main) in
    let there = the_named walk.bodies.now walk.spot.number known in
    let size : outline_size (rest_at walk.bodies.now walk.spot) ≡ outline_size (outline_at walk.bodies.now walk.spot.number) = begins-size walk.bodies.now walk.spot there.0 is.good there.1 first in
    let same : outline_size (outline_at walk.bodies.now walk.spot.number) ≡ outline_size (outline_at walk.bodies.now (main_of walk.bodies.now)) = ap (λ (n : ℕ). outline_size (outline_at walk.bodies.now n)) main in
    let few = is.few in
    record {
      good = is.good;
      short = is.short;
      spot = record {
        known = let empty : length walk.outer.items ≡ 0 = ap length none in omega (arith, empty, known);
        ends = omega (arith, at, size, same, end);
        few = omega (arith, few, end);
      };
      outer = subst (AreLevelsIn walk.bodies.now 0) (sym none) tt;
    }

module _ (walk : Walk) (is : AreListed walk.bodies.now) (none : walk.outer.items ≡ []) (main : walk.spot.number ≡ main_of walk.bodies.now) (first : walk.spot.place ≡ 0) (at : walk.spot.at ≡ 0) where
  known-main : walk.spot.number < length walk.bodies.now
  known-main = let some = is.some in omega (arith, some, main)

  the-main : (body : NamedBody) × (slice_get walk.bodies.now walk.spot.number ≡ Some body)
  the-main = the_named walk.bodies.now walk.spot.number known-main

  begin-left : {A : Type 0} (tell : Spot → List WayStep → List A) → left_of tell walk ≡ tell walk.spot []
  begin-left tell = ap (λ (l : List Level). tell walk.spot (steps_of l) ++ left_in tell l []) none ∙ append-nil (tell walk.spot [])

  pub begin-lines : lines_left walk ≡ told_lines (outline_at walk.bodies.now (main_of walk.bodies.now)) 0 []
  begin-lines =
      begin-left (lines_from walk.bodies.now) ∙ begins-lines walk.bodies.now walk.spot the-main.0 is.good the-main.1 first []
      ∙ ap₂ (λ (n a : ℕ). told_lines (outline_at walk.bodies.now n) a []) main at

  pub begin-labels : walk.spot.after ≡ 0 → met_labels walk.bodies.now (Body walk.spot) [] ++ labels_left walk ≡ all_states (outline_at walk.bodies.now (main_of walk.bodies.now)) 0 0 []
  begin-labels after =
      ap (λ (l : List LabelState). met_labels walk.bodies.now (Body walk.spot) [] ++ l) (begin-left (labels_from walk.bodies.now) ∙ begins-labels walk.bodies.now walk.spot the-main.0 is.good the-main.1 first [])
      ∙ ap₂ (λ (n a : ℕ). all_states (outline_at walk.bodies.now n) a walk.spot.after []) main at
      ∙ ap (λ (n : ℕ). all_states (outline_at walk.bodies.now (main_of walk.bodies.now)) 0 n []) after

-- the end of a body
module _ (old : Walk) (is : IsWalk old) (end : rest_at old.bodies.now old.spot ≡ Closed) where
  leave-left : {A : Type 0} (tell : Spot → List WayStep → List A) (front : List Level) (level : Level) → tell old.spot (steps_of old.outer.items) ≡ [] → old.outer.items ≡ front ++ level ∷ [] →
      left_of tell old ≡ tell level.spot (steps_of front) ++ left_in tell front []
  leave-left tell front level none split =
      ap (λ (l : _). l ++ left_in tell old.outer.items []) none ∙ ap (λ (l : List Level). left_in tell l []) split ∙ left-last tell front level []

  no-lines : lines_from old.bodies.now old.spot (steps_of old.outer.items) ≡ []
  no-lines = ap (λ (o : Outline). told_lines o old.spot.at (steps_of old.outer.items)) end

  no-labels : labels_from old.bodies.now old.spot (steps_of old.outer.items) ≡ []
  no-labels = ap (λ (o : Outline). inner_states o old.spot.at old.spot.after (steps_of old.outer.items)) end

  module _ (outer : ArrayVec Level) (level : Level) (split : old.outer.items ≡ outer.items ++ level ∷ []) where
    abbrev left-walk : Walk
    left-walk = record { bodies = old.bodies; outer = outer; spot = level.spot }

    pub leave-good : IsWalk left-walk
    leave-good =
        let outside = levels-last old.bodies.now 0 outer.items level (subst (AreLevelsIn old.bodies.now 0) split is.outer) in
        record {
          good = is.good;
          short = is.short;
          spot = subst (λ (n : ℕ). IsSpotIn old.bodies.now n level.spot) (let e : 0 + length outer.items ≡ length outer.items = omega arith in e) outside.1;
          outer = outside.0;
        }

    pub leave-step : IsStep old left-walk Nothing
    leave-step = record {
      fits = tt;
      lines = leave-left (lines_from old.bodies.now) outer.items level no-lines split;
      labels = leave-left (labels_from old.bodies.now) outer.items level no-labels split;
      fewer =
          let one : steps_in (rest_at old.bodies.now old.spot) ≡ 1 = ap steps_in end in
          let rest : steps_after old.bodies.now old.outer.items ≡ steps_after old.bodies.now outer.items + steps_in (rest_at old.bodies.now level.spot) = ap (steps_after old.bodies.now) split ∙ steps-last old.bodies.now outer.items level in
          omega (arith, one, rest);
    }

-- a line of a body
module _ (old : Walk) (is : IsWalk old) (line : NamedLine) (behind : Spot) (next : IsNext old.bodies.now old.spot line behind) where
  abbrev bodies : List NamedBody
  bodies = old.bodies.now

  abbrev blocks : List Outline
  blocks = outlines_of bodies

  abbrev way : List WayStep
  way = steps_of old.outer.items

  pass-lines : lines_from bodies old.spot way ≡ line_states blocks line old.spot.at way ++ lines_from bodies behind way
  pass-lines =
      ap (λ (o : Outline). told_lines o old.spot.at way) next.rest
      ∙ lines-split blocks line (rest_at bodies behind) old.spot.at way (outline_size (line_before blocks line Closed)) refl
      ∙ ap (λ (n : ℕ). line_states blocks line old.spot.at way ++ told_lines (rest_at bodies behind) n way) (sym next.at)

  behind-size : outline_size (rest_at bodies old.spot) ≡ outline_size (line_before blocks line Closed) + outline_size (rest_at bodies behind)
  behind-size = ap outline_size next.rest ∙ line_before-size blocks line (rest_at bodies behind)

  behind-ends : behind.at + outline_size (rest_at bodies behind) ≡ behind.end
  behind-ends = let size = behind-size in let at = next.at in let end = next.end in let ends = is.spot.ends in omega (arith, size, at, end, ends)

  behind-spot : IsSpotIn bodies (length old.outer.items) behind
  behind-spot = record {
    known = let same = next.number in let known = is.spot.known in omega (arith, same, known);
    ends = behind-ends;
    few = let end = next.end in let few = is.spot.few in omega (arith, end, few);
  }

  pass-labels : (follows : ℕ) → follows ≡ (if behind.at == behind.end then behind.after else behind.at) →
      labels_from bodies old.spot way ≡ used_states blocks line old.spot.at follows way ++ labels_from bodies behind way
  pass-labels follows so =
      ap (λ (o : Outline). inner_states o old.spot.at old.spot.after way) next.rest
      ∙ inner-split blocks line (rest_at bodies behind) old.spot.at old.spot.after way (outline_size (line_before blocks line Closed)) refl
      ∙ ap₂ (λ (n after : ℕ). used_states blocks line old.spot.at (state_at (outline_size (rest_at bodies behind)) n after) way ++ inner_states (rest_at bodies behind) n after way) (sym next.at) (sym next.after)
      ∙ ap (λ (n : ℕ). used_states blocks line old.spot.at n way ++ labels_from bodies behind way)
      (sym (so ∙ state-is behind.at behind.end behind.after (outline_size (rest_at bodies behind)) behind-ends))

  -- a use
  module _ (number : ℕ) (name : Vec ℕ Global) (block : ℕ) (puts : line ≡ NamedLine.Use number name block) (level : Level) (at-use : level.spot ≡ behind) (line-is : level.step.line ≡ number) (name-is : level.step.name.now ≡ name.items)
      (outer : ArrayVec Level) (pushed : outer.items ≡ old.outer.items ++ level ∷ []) (spot : Spot) (number-is : spot.number ≡ block) (first : spot.place ≡ 0) (at-is : spot.at ≡ old.spot.at) (end-is : spot.end ≡ behind.at)
      (after-is : spot.after ≡ (if behind.at == behind.end then behind.after else behind.at)) where
    abbrev used-walk : Walk
    used-walk = record { bodies = old.bodies; outer = outer; spot = spot }

    use-early : block < old.spot.number
    use-early = subst (IsUseBelow old.spot.number) puts next.below

    use-known : spot.number < length bodies
    use-known = let early = use-early in let known = is.spot.known in let n = number-is in omega (arith, early, known, n)

    the-block : (body : NamedBody) × (slice_get bodies spot.number ≡ Some body)
    the-block = the_named bodies spot.number use-known

    used-way : steps_of outer.items ≡ further way name.items number
    used-way =
        ap steps_of pushed ∙ steps_of-last old.outer.items level
        ∙ ap₂ (λ (n : List ℕ) (l : ℕ). further way n l) name-is line-is

    block-size : outline_size (line_before blocks line Closed) ≡ outline_size (outline_at bodies spot.number)
    block-size =
        let one : outline_size (line_before blocks line Closed) ≡ outline_size (outline_at bodies block) + 0 = ap (λ (l : NamedLine). outline_size (line_before blocks l Closed)) puts in
        let two : outline_size (outline_at bodies spot.number) ≡ outline_size (outline_at bodies block) = ap (λ (n : ℕ). outline_size (outline_at bodies n)) number-is in
        omega (arith, one, two)

    use-fits : spot.at + outline_size (outline_at bodies spot.number) ≡ behind.at
    use-fits = let size = block-size in let at = next.at in let same = at-is in omega (arith, size, at, same)

    use-few : behind.at ≤ most
    use-few = let ends = behind-ends in let few = behind-spot.few in omega (arith, ends, few)

    pub use-good : IsWalk used-walk
    use-good =
        let more : length outer.items ≡ suc (length old.outer.items) = ap length pushed ∙ (let one = length_push old.outer.items level in omega (arith, one)) in
        record {
          good = is.good;
          short = is.short;
          spot = record {
            known = let early = use-early in let known = is.spot.known in let n = number-is in omega (arith, more, early, known, n);
            ends = let size = begins-size bodies spot the-block.0 is.good the-block.1 first in let fits = use-fits in let end = end-is in omega (arith, size, fits, end);
            few = let few = use-few in let end = end-is in omega (arith, few, end);
          };
          outer = subst (AreLevelsIn bodies 0) (sym pushed)
              (levels-push bodies 0 old.outer.items level is.outer
              (subst (IsSpotIn bodies (0 + length old.outer.items)) (sym at-use) (subst (λ (n : ℕ). IsSpotIn bodies n behind) (let e : length old.outer.items ≡ 0 + length old.outer.items = omega arith in e) behind-spot)));
        }

    -- what is left is reported after the use
    later-left : {A : Type 0} (tell : Spot → List WayStep → List A) → left_in tell outer.items [] ≡ tell behind way ++ left_in tell old.outer.items []
    later-left tell =
        ap (λ (l : List Level). left_in tell l []) pushed ∙ left-last tell old.outer.items level []
        ∙ ap (λ (s : Spot). tell s way ++ left_in tell old.outer.items []) at-use

    abbrev own : List LabelState
    own = own_states (outline_at bodies spot.number) spot.at spot.after (steps_of outer.items)

    use-lines : line_states blocks line old.spot.at way ≡ lines_from bodies spot (steps_of outer.items)
    use-lines =
        ap (λ (l : NamedLine). line_states blocks l old.spot.at way) puts
        ∙ ap₂ (λ (n : ℕ) (w : List WayStep). told_lines (outline_at bodies n) old.spot.at w) (sym number-is) (sym used-way)
        ∙ ap (λ (n : ℕ). told_lines (outline_at bodies spot.number) n (steps_of outer.items)) (sym at-is)
        ∙ sym (begins-lines bodies spot the-block.0 is.good the-block.1 first (steps_of outer.items))

    use-labels : used_states blocks line old.spot.at spot.after way ≡ own ++ labels_from bodies spot (steps_of outer.items)
    use-labels =
        ap (λ (l : NamedLine). used_states blocks l old.spot.at spot.after way) puts
        ∙ ap₂ (λ (n : ℕ) (w : List WayStep). all_states (outline_at bodies n) old.spot.at spot.after w) (sym number-is) (sym used-way)
        ∙ ap (λ (n : ℕ). all_states (outline_at bodies spot.number) n spot.after (steps_of outer.items)) (sym at-is)
        ∙ ap (λ (l : List LabelState). own ++ l) (sym (begins-labels bodies spot the-block.0 is.good the-block.1 first (steps_of outer.items)))

    pub use-step : IsStep old used-walk (Body spot)
    use-step = record {
      fits = (use-known, (let fits = use-fits in let few = use-few in omega (arith, fits, few)));
      lines =
          ap (λ (l : List StateLine). l ++ left_in (lines_from bodies) old.outer.items [])
          (pass-lines ∙ ap (λ (l : List StateLine). l ++ lines_from bodies behind way) use-lines)
          ∙ append_assoc (lines_from bodies spot (steps_of outer.items)) (lines_from bodies behind way) (left_in (lines_from bodies) old.outer.items [])
          ∙ ap (λ (l : List StateLine). lines_from bodies spot (steps_of outer.items) ++ l) (sym (later-left (lines_from bodies)));
      labels =
          ap (λ (l : List LabelState). l ++ left_in (labels_from bodies) old.outer.items [])
          (pass-labels spot.after after-is ∙ ap (λ (l : List LabelState). l ++ labels_from bodies behind way) use-labels)
          ∙ append_assoc (own ++ labels_from bodies spot (steps_of outer.items)) (labels_from bodies behind way) (left_in (labels_from bodies) old.outer.items [])
          ∙ append_assoc own (labels_from bodies spot (steps_of outer.items)) (labels_from bodies behind way ++ left_in (labels_from bodies) old.outer.items [])
          ∙ ap (λ (l : List LabelState). own ++ (labels_from bodies spot (steps_of outer.items) ++ l)) (sym (later-left (labels_from bodies)));
      fewer =
          let one : steps_in (rest_at bodies old.spot) ≡ suc (steps_in (outline_at bodies block) + steps_in (rest_at bodies behind)) = ap steps_in (next.rest ∙ ap (λ (l : NamedLine). line_before blocks l (rest_at bodies behind)) puts) in
          let two = begins-steps bodies spot the-block.0 is.good the-block.1 first in
          let three : steps_in (outline_at bodies spot.number) ≡ steps_in (outline_at bodies block) = ap (λ (n : ℕ). steps_in (outline_at bodies n)) number-is in
          let four : steps_after bodies outer.items ≡ steps_after bodies old.outer.items + steps_in (rest_at bodies level.spot) = ap (steps_after bodies) pushed ∙ steps-last bodies old.outer.items level in
          let five : steps_in (rest_at bodies level.spot) ≡ steps_in (rest_at bodies behind) = ap (λ (s : Spot). steps_in (rest_at bodies s)) at-use in
          omega (arith, one, two, three, four, five);
    }
