-- What is claimed at a position, and what merging of claims keeps.
use Rattle.std.proofs.Common.{◌≡◌, ◌≢◌, inl, inr, Bool, true, false, ◌||◌, if◌then◌else◌, List, [], ◌∷◌, ◌++◌, map, refl, sym, ◌∙◌, ap, subst, arith}
use Rattle.std.proofs.Math.Bool.{or-false, or_assoc}
use Rattle.std.specs.List.{All, AllByRecursion, AllPairs}
use Rattle.std.proofs.lemmas.List.Elements.{All-cons}
use Rattle.std.proofs.lemmas.List.Kept.{AllPairs-cons}
use Rattle.std.proofs.lemmas.Bool.{cases_Bool, cond-true, cond-false, or_cases, or_left, or_right}
use Rattle.hex_geometry.specs.declared.position.Pos.{Pos}
use Rattle.hex_geometry.specs.Position.{same_pos}
use Rattle.hex_geometry.proofs.Places.{same_pos_apart, same_pos_equal, same_pos_false, same_pos_true}
use Rattle.cell_world.specs.declared.cell.Cell.{Cell}
use Rattle.cell_world.specs.declared.part.Part.{Part}
use Rattle.cell_world.specs.declared.part.Part.TheVariants.{Who, Mind, Load, Food, RedMarks, BlackMarks}
use Rattle.cell_world.specs.declared.part.Parts.{Parts}
use Rattle.cell_world.specs.Parts.{Agree, has_part, no_parts, union}
use Rattle.cell_world.specs.World.{Cells}
use Rattle.spec_record.specs.Claims.{Claim, EachOnce, claim, with_claim, merged, merged_onto, seen_positions, with_cells_at}
use Rattle.spec_record.specs.Patches.{parts_at, parts_there}

-- a part is in a union where it is in one of the two
pub has_part-union : (a b : Parts) (k : Part) → has_part (union a b) k ≡ (has_part a k || has_part b k)
has_part-union a b Who = refl
has_part-union a b it = refl

-- no part is in the empty set
pub has_part-none : (k : Part) → has_part no_parts k ≡ false
has_part-none Who = refl
has_part-none it = refl

-- two sets with the same parts are one
pub parts_same : (a b : Parts) → ((k : Part) → has_part a k ≡ has_part b k) → a ≡ b
parts_same a b same =
    let made : Bool → Bool → Bool → Bool → Bool → Bool → Parts = λ u v w x y z. record { who = u; mind = v; load = w; food = x; red_marks = y; black_marks = z } in
    ap (λ t. made t a.mind a.load a.food a.red_marks a.black_marks) (same Who)
    ∙ ap (λ t. made b.who t a.load a.food a.red_marks a.black_marks) (same Mind)
    ∙ ap (λ t. made b.who b.mind t a.food a.red_marks a.black_marks) (same Load)
    ∙ ap (λ t. made b.who b.mind b.load t a.red_marks a.black_marks) (same Food)
    ∙ ap (λ t. made b.who b.mind b.load b.food t a.black_marks) (same RedMarks)
    ∙ ap (made b.who b.mind b.load b.food b.red_marks) (same BlackMarks)

or_comm : (x y : Bool) → (x || y) ≡ (y || x)
or_comm true true = refl
or_comm true false = refl
or_comm false true = refl
or_comm false false = refl

-- a union doesn't depend on the order
pub union-comm : (a b : Parts) → union a b ≡ union b a
union-comm a b = parts_same (union a b) (union b a) (λ k. has_part-union a b k ∙ or_comm (has_part a k) (has_part b k) ∙ sym (has_part-union b a k))

pub union-assoc : (a b c : Parts) → union (union a b) c ≡ union a (union b c)
union-assoc a b c = parts_same (union (union a b) c) (union a (union b c)) λ k.
    has_part-union (union a b) c k ∙ ap (λ t. t || has_part c k) (has_part-union a b k) ∙ or_assoc (has_part a k) (has_part b k) (has_part c k)
    ∙ sym (has_part-union a (union b c) k ∙ ap (λ t. has_part a k || t) (has_part-union b c k))

pub union-none : (a : Parts) → union a no_parts ≡ a
union-none a = parts_same (union a no_parts) a λ k. has_part-union a no_parts k ∙ ap (λ t. has_part a k || t) (has_part-none k) ∙ or-false (has_part a k)

-- the last of three may come second
union-swap : (a b c : Parts) → union (union a b) c ≡ union (union a c) b
union-swap a b c = union-assoc a b c ∙ ap (union a) (union-comm b c) ∙ sym (union-assoc a c b)

-- cells agree in a union where they agree in both
pub Agree-union : (a b : Parts) (c d : Cell) → Agree a c d → Agree b c d → Agree (union a b) c d
Agree-union a b c d first second k named =
    elim (or_cases (has_part a k) (has_part b k) (sym (has_part-union a b k) ∙ named)) [
      | inl in_a ↦ first k in_a
      | inr in_b ↦ second k in_b
    ]

pub Agree-first : (a b : Parts) (c d : Cell) → Agree (union a b) c d → Agree a c d
Agree-first a b c d both k named = both k (has_part-union a b k ∙ or_left (has_part a k) (has_part b k) named)

pub Agree-second : (a b : Parts) (c d : Cell) → Agree (union a b) c d → Agree b c d
Agree-second a b c d both k named = both k (has_part-union a b k ∙ or_right (has_part a k) (has_part b k) named)

-- a claim at its position, and at another
pub parts_there-here : (c : Claim) (p : Pos) → c.at ≡ p → parts_there c p ≡ c.parts
parts_there-here c p here = cond-true _ _ _ (same_pos_equal c.at p here)

pub parts_there-elsewhere : (c : Claim) (p : Pos) → c.at ≢ p → parts_there c p ≡ no_parts
parts_there-elsewhere c p apart = cond-false _ _ _ (same_pos_apart c.at p apart)

-- two claims at one position
parts_there-union : (at : Pos) (a b : Parts) (p : Pos) → parts_there (claim at (union a b)) p ≡ union (parts_there (claim at a) p) (parts_there (claim at b) p)
parts_there-union at a b p = go (same_pos at p) where
  go : (here : Bool) → (if here then union a b else no_parts) ≡ union (if here then a else no_parts) (if here then b else no_parts)
  go true = refl
  go false = refl

-- what is claimed of two lists
pub parts_at-append : (claims more : List Claim) (p : Pos) → parts_at (claims ++ more) p ≡ union (parts_at claims p) (parts_at more p)
parts_at-append [] more p = refl
parts_at-append (c ∷ claims) more p = ap (union (parts_there c p)) (parts_at-append claims more p) ∙ sym (union-assoc (parts_there c p) (parts_at claims p) (parts_at more p))

-- two claims of one position are one claim
pub parts_at-both : (at : Pos) (a b : Parts) (claims : List Claim) (p : Pos) → parts_at (claim at a ∷ claim at b ∷ claims) p ≡ parts_at (claim at (union a b) ∷ claims) p
parts_at-both at a b claims p =
    sym (union-assoc (parts_there (claim at a) p) (parts_there (claim at b) p) (parts_at claims p))
    ∙ ap (λ t. union t (parts_at claims p)) (sym (parts_there-union at a b p))

-- what is claimed with one claim more
parts_at-with_claim : (claims : List Claim) (new : Claim) (p : Pos) → parts_at (with_claim claims new) p ≡ union (parts_at claims p) (parts_there new p)
parts_at-with_claim [] new p = union-none (parts_there new p)
parts_at-with_claim (old ∷ claims) new p =
    elim (cases_Bool (same_pos old.at new.at)) [
      | inl one ↦
          let at : old.at ≡ new.at = same_pos_true old.at new.at one in
          ap (λ l. parts_at l p) (cond-true _ (claim old.at (union old.parts new.parts) ∷ claims) (old ∷ with_claim claims new) one)
          ∙ ap (λ t. union t (parts_at claims p)) (parts_there-union old.at old.parts new.parts p ∙ ap (λ q. union (parts_there old p) (parts_there (claim q new.parts) p)) at)
          ∙ union-swap (parts_there old p) (parts_there new p) (parts_at claims p)
      | inr apart ↦
          ap (λ l. parts_at l p) (cond-false _ (claim old.at (union old.parts new.parts) ∷ claims) (old ∷ with_claim claims new) apart)
          ∙ ap (union (parts_there old p)) (parts_at-with_claim claims new p)
          ∙ sym (union-assoc (parts_there old p) (parts_at claims p) (parts_there new p))
    ]

parts_at-merged_onto : (more claims : List Claim) (p : Pos) → parts_at (merged_onto claims more) p ≡ union (parts_at claims p) (parts_at more p)
parts_at-merged_onto [] claims p = sym (union-none (parts_at claims p))
parts_at-merged_onto (new ∷ more) claims p =
    parts_at-merged_onto more (with_claim claims new) p
    ∙ ap (λ t. union t (parts_at more p)) (parts_at-with_claim claims new p)
    ∙ union-assoc (parts_at claims p) (parts_there new p) (parts_at more p)

-- merging keeps what is claimed at each position
pub parts_at-merged : (claims : List Claim) (p : Pos) → parts_at (merged claims) p ≡ parts_at claims p
unfolding merged
parts_at-merged claims p = parts_at-merged_onto claims [] p

-- two worlds agree in all claims
abbrev pub AgreeInAll : Cells → Cells → List Claim → Type 0
AgreeInAll v w claims = AllByRecursion (λ c. Agree c.parts (v c.at) (w c.at)) claims

AgreeInAll-with_claim : (v w : Cells) (claims : List Claim) (new : Claim) → AgreeInAll v w (with_claim claims new) → AgreeInAll v w claims × Agree new.parts (v new.at) (w new.at)
AgreeInAll-with_claim v w [] new all = (tt, all.0)
AgreeInAll-with_claim v w (old ∷ claims) new all =
    elim (cases_Bool (same_pos old.at new.at)) [
      | inl one ↦
          let at : old.at ≡ new.at = same_pos_true old.at new.at one in
          let it : AgreeInAll v w (claim old.at (union old.parts new.parts) ∷ claims) = subst (AgreeInAll v w) (cond-true _ (claim old.at (union old.parts new.parts) ∷ claims) (old ∷ with_claim claims new) one) all in (
            (Agree-first old.parts new.parts (v old.at) (w old.at) it.0, it.1),
            subst (λ q. Agree new.parts (v q) (w q)) at (Agree-second old.parts new.parts (v old.at) (w old.at) it.0),
          )
      | inr apart ↦
          let it : AgreeInAll v w (old ∷ with_claim claims new) = subst (AgreeInAll v w) (cond-false _ (claim old.at (union old.parts new.parts) ∷ claims) (old ∷ with_claim claims new) apart) all in
          let rest : AgreeInAll v w claims × Agree new.parts (v new.at) (w new.at) = AgreeInAll-with_claim v w claims new it.1 in
          ((it.0, rest.0), rest.1)
    ]

AgreeInAll-merged_onto : (v w : Cells) (more claims : List Claim) → AgreeInAll v w (merged_onto claims more) → AgreeInAll v w claims × AgreeInAll v w more
AgreeInAll-merged_onto v w [] claims all = (all, tt)
AgreeInAll-merged_onto v w (new ∷ more) claims all =
    let front : AgreeInAll v w (with_claim claims new) × AgreeInAll v w more = AgreeInAll-merged_onto v w more (with_claim claims new) all in
    let it : AgreeInAll v w claims × Agree new.parts (v new.at) (w new.at) = AgreeInAll-with_claim v w claims new front.0 in
    (it.0, (it.1, front.1))

-- what agrees in merged claims agrees in each of the claims
pub AgreeInAll-merged : (v w : Cells) (claims : List Claim) → AgreeInAll v w (merged claims) → AgreeInAll v w claims
unfolding merged
AgreeInAll-merged v w claims all = (AgreeInAll-merged_onto v w claims [] all).1

-- the positions of claims
abbrev pub positions : List Claim → List Pos
positions claims = map (λ c. c.at) claims

fresh-with_claim : (claims : List Claim) (new : Claim) (p : Pos) → AllByRecursion (λ q. q ≢ p) (positions claims) → new.at ≢ p → AllByRecursion (λ q. q ≢ p) (positions (with_claim claims new))
fresh-with_claim [] new p fresh apart = (apart, tt)
fresh-with_claim (old ∷ claims) new p fresh apart =
    elim (cases_Bool (same_pos old.at new.at)) [
      | inl one ↦ subst (λ l. AllByRecursion (λ q. q ≢ p) (positions l)) (sym (cond-true _ (claim old.at (union old.parts new.parts) ∷ claims) (old ∷ with_claim claims new) one)) fresh
      | inr two ↦ subst (λ l. AllByRecursion (λ q. q ≢ p) (positions l)) (sym (cond-false _ (claim old.at (union old.parts new.parts) ∷ claims) (old ∷ with_claim claims new) two)) (fresh.0, fresh-with_claim claims new p fresh.1 apart)
    ]

EachOnce-with_claim : (claims : List Claim) (new : Claim) → EachOnce (positions claims) → EachOnce (positions (with_claim claims new))
EachOnce-with_claim [] new once = (tt, tt)
EachOnce-with_claim (old ∷ claims) new once =
    elim (cases_Bool (same_pos old.at new.at)) [
      | inl one ↦ subst (λ l. EachOnce (positions l)) (sym (cond-true _ (claim old.at (union old.parts new.parts) ∷ claims) (old ∷ with_claim claims new) one)) once
      | inr two ↦ subst (λ l. EachOnce (positions l)) (sym (cond-false _ (claim old.at (union old.parts new.parts) ∷ claims) (old ∷ with_claim claims new) two))
          (fresh-with_claim claims new old.at once.0 (λ e. same_pos_false old.at new.at two (sym e)), EachOnce-with_claim claims new once.1)
    ]

EachOnce-merged_onto : (more claims : List Claim) → EachOnce (positions claims) → EachOnce (positions (merged_onto claims more))
EachOnce-merged_onto [] claims once = once
EachOnce-merged_onto (new ∷ more) claims once = EachOnce-merged_onto more (with_claim claims new) (EachOnce-with_claim claims new once)

-- merged claims have each position once
pub EachOnce-merged : (claims : List Claim) → EachOnce (positions (merged claims))
unfolding merged
EachOnce-merged claims = EachOnce-merged_onto claims [] tt

-- claims with their cells are at the positions of the claims
pub seen_positions-claims : (cells : Cells) (claims : List Claim) → positions claims ≡ seen_positions (with_cells_at cells claims)
seen_positions-claims cells [] = refl
seen_positions-claims cells (c ∷ claims) = ap (λ l. c.at ∷ l) (seen_positions-claims cells claims)

-- so merged claims with their cells have each position once
pub EachOnce-sightings : (cells : Cells) (claims : List Claim) → EachOnce (seen_positions (with_cells_at cells (merged claims)))
EachOnce-sightings cells claims = subst EachOnce (seen_positions-claims cells (merged claims)) (EachOnce-merged claims)

-- at a position that isn't among those of claims nothing is claimed
pub parts_at-fresh : (claims : List Claim) (p : Pos) → AllByRecursion (λ q. q ≢ p) (positions claims) → parts_at claims p ≡ no_parts
parts_at-fresh [] p fresh = refl
parts_at-fresh (c ∷ claims) p fresh = ap (λ t. union t (parts_at claims p)) (parts_there-elsewhere c p fresh.0) ∙ parts_at-fresh claims p fresh.1

-- what holds of each of a list holds of all of it
all_of : {A : Type 0} (P : A → Type 0) (xs : List A) → AllByRecursion P xs → All P xs
all_of {A} P [] each = λ i d within. absurd (omega (arith, within))
all_of {A} P (x ∷ xs) each = All-cons P x xs each.0 (all_of P xs each.1)

-- positions that are each there once are pairwise two
EachOnce-AllPairs : (places : List Pos) → EachOnce places → AllPairs ◌≢◌ places
EachOnce-AllPairs [] once = λ i j d before within. absurd (omega (arith, within))
EachOnce-AllPairs (p ∷ places) once =
    AllPairs-cons ◌≢◌ p places (λ k d inside same. all_of (λ q. q ≢ p) places once.0 k d inside (sym same)) (EachOnce-AllPairs places once.1)

pub AllPairs-positions : (claims : List Claim) → AllPairs ◌≢◌ (positions (merged claims))
AllPairs-positions claims = EachOnce-AllPairs (positions (merged claims)) (EachOnce-merged claims)

-- what holds of the position of each claim holds of those of merged claims
positions-with_claim : (P : Pos → Type 0) (claims : List Claim) (new : Claim) → AllByRecursion P (positions claims) → P new.at → AllByRecursion P (positions (with_claim claims new))
positions-with_claim P [] new all one = (one, tt)
positions-with_claim P (old ∷ claims) new all one =
    elim (cases_Bool (same_pos old.at new.at)) [
      | inl same ↦ subst (λ l. AllByRecursion P (positions l)) (sym (cond-true _ (claim old.at (union old.parts new.parts) ∷ claims) (old ∷ with_claim claims new) same)) all
      | inr two ↦ subst (λ l. AllByRecursion P (positions l)) (sym (cond-false _ (claim old.at (union old.parts new.parts) ∷ claims) (old ∷ with_claim claims new) two)) (all.0, positions-with_claim P claims new all.1 one)
    ]

positions-merged_onto : (P : Pos → Type 0) (more claims : List Claim) → AllByRecursion P (positions claims) → AllByRecursion P (positions more) → AllByRecursion P (positions (merged_onto claims more))
positions-merged_onto P [] claims first second = first
positions-merged_onto P (new ∷ more) claims first second = positions-merged_onto P more (with_claim claims new) (positions-with_claim P claims new first second.0) second.1

pub positions-merged : (P : Pos → Type 0) (claims : List Claim) → AllByRecursion P (positions claims) → AllByRecursion P (positions (merged claims))
unfolding merged
positions-merged P claims all = positions-merged_onto P claims [] tt all

-- if each position is claimed once, what is claimed there is that claim's
pub own_parts : (claims : List Claim) → EachOnce (positions claims) → AllByRecursion (λ c. parts_at claims c.at ≡ c.parts) claims
own_parts [] once = tt
own_parts (c ∷ claims) once = (
  ap (λ a. union a (parts_at claims c.at)) (parts_there-here c c.at refl) ∙ ap (union c.parts) (parts_at-fresh claims c.at once.0) ∙ union-none c.parts,
  go claims once.0 (own_parts claims once.1),
) where
  go : (more : List Claim) → AllByRecursion (λ q. q ≢ c.at) (positions more) → AllByRecursion (λ d. parts_at claims d.at ≡ d.parts) more → AllByRecursion (λ d. parts_at (c ∷ claims) d.at ≡ d.parts) more
  go [] fresh all = tt
  go (d ∷ more) fresh all = (ap (λ a. union a (parts_at claims d.at)) (parts_there-elsewhere c d.at (λ e. fresh.0 (sym e))) ∙ all.0, go more fresh.1 all.1)
