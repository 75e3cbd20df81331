-- Lists of sightings: each position once, and how many they are at most.
use Rattle.std.proofs.Common.{◌≡◌, inl, inr, ℕ, zero, suc, ◌+◌, ◌≤◌, ◌<◌, Bool, true, false, cond, ◌||◌, List, [], ◌∷◌, ◌++◌, length, drop, take, map, subst, slice_index_or, slice_set, refl, sym, ◌∙◌, ap, add-one, arith}
use Rattle.std.specs.List.{AllByRecursion, flat_map, refill}
use Rattle.std.proofs.Math.Seq.{drop-cons, drop-length, take-length}
use Rattle.std.proofs.lemmas.List.{append-nil, length-set}
use Rattle.std.proofs.lemmas.Bool.{or_left, cases_Bool, cond-false, cond-true, or_right}
use Rattle.hex_geometry.specs.declared.position.Pos.{Pos}
use Rattle.hex_geometry.specs.Position.{same_pos}
use Rattle.hex_geometry.proofs.Places.{same_pos_true}
use Rattle.cell_world.specs.declared.part.Parts.{Parts}
use Rattle.cell_world.specs.Parts.{union}
use Rattle.cell_world.specs.World.{Cells}
use Rattle.spec_record.specs.Claims.{Claim, Sighting, claim, merged, merged_onto, seen_cell, seen_parts, seen_place, with_cells_at, with_claim}
use Rattle.spec_record.specs.Inner.Sightings.{all_sighted, seen_number, sighted, sightings_of}

-- the sighting of a claim
abbrev pub sight : Cells → Claim → Sighting
sight cells c = (c.at, c.parts, cells c.at)

-- a claim more is a sighting more
with_cells_at-with_claim : (cells : Cells) (claims : List Claim) (new : Claim) → with_cells_at cells (with_claim claims new) ≡ sighted (with_cells_at cells claims) (sight cells new)
with_cells_at-with_claim cells [] new = refl
with_cells_at-with_claim cells (old ∷ claims) new =
    elim (cases_Bool (same_pos old.at new.at)) [
      | inl same ↦ ap (with_cells_at cells) (cond-true _ _ _ same) ∙ sym (cond-true _ _ _ same)
      | inr apart ↦ ap (with_cells_at cells) (cond-false _ _ _ apart) ∙ ap (λ more. sight cells old ∷ more) (with_cells_at-with_claim cells claims new) ∙ sym (cond-false _ _ _ apart)
    ]

-- so are many
with_cells_at-merged_onto : (cells : Cells) (claims more : List Claim) → with_cells_at cells (merged_onto claims more) ≡ all_sighted (with_cells_at cells claims) (with_cells_at cells more)
with_cells_at-merged_onto cells claims [] = refl
with_cells_at-merged_onto cells claims (new ∷ more) =
    with_cells_at-merged_onto cells (with_claim claims new) more ∙ ap (λ list. all_sighted list (with_cells_at cells more)) (with_cells_at-with_claim cells claims new)

-- merged claims with their cells are the sightings of all claims, one after another
pub with_cells_at-merged : (cells : Cells) (claims : List Claim) → with_cells_at cells (merged claims) ≡ all_sighted [] (with_cells_at cells claims)
unfolding merged
with_cells_at-merged cells claims = with_cells_at-merged_onto cells [] claims

-- some and then more are all
pub all_sighted-append : (list some more : List Sighting) → all_sighted list (some ++ more) ≡ all_sighted (all_sighted list some) more
all_sighted-append list [] more = refl
all_sighted-append list (new ∷ some) more = all_sighted-append (sighted list new) some more

-- a list grows
sighted-grows : (list : List Sighting) (new : Sighting) → length list ≤ length (sighted list new)
sighted-grows [] new = omega arith
sighted-grows (old ∷ list) new =
    elim (cases_Bool (same_pos (seen_place old) (seen_place new))) [
      | inl same ↦ let e = ap length (cond-true _ ((seen_place old, union (seen_parts old) (seen_parts new), seen_cell old) ∷ list) (old ∷ sighted list new) same) in omega (arith, e)
      | inr apart ↦ let e = ap length (cond-false _ ((seen_place old, union (seen_parts old) (seen_parts new), seen_cell old) ∷ list) (old ∷ sighted list new) apart) in let more = sighted-grows list new in omega (arith, e, more)
    ]

pub all_sighted-grows : (list more : List Sighting) → length list ≤ length (all_sighted list more)
all_sighted-grows list [] = omega arith
all_sighted-grows list (new ∷ more) =
    let first = sighted-grows list new in
    let rest = all_sighted-grows (sighted list new) more in
    omega arith

-- a sighting in which the position of the one seen before gets more parts
abbrev pub widened : Sighting → Sighting → Sighting
widened old new = (seen_place old, union (seen_parts old) (seen_parts new), seen_cell old)

-- a position that is in the list: its parts are more
pub sighted-again : (list : List Sighting) (new z : Sighting) → seen_number (seen_place new) list < length list →
    sighted list new ≡ slice_set list (seen_number (seen_place new) list) (widened (slice_index_or list (seen_number (seen_place new) list) z) new)
sighted-again [] new z below = absurd (omega arith)
sighted-again (old ∷ list) new z below =
    let At : ℕ → Type 0 = λ k. sighted (old ∷ list) new ≡ slice_set (old ∷ list) k (widened (slice_index_or (old ∷ list) k z) new) in
    elim (cases_Bool (same_pos (seen_place old) (seen_place new))) [
      | inl same ↦ subst At (sym (cond-true _ zero (suc (seen_number (seen_place new) list)) same)) (cond-true _ (widened old new ∷ list) (old ∷ sighted list new) same)
      | inr apart ↦
          let e = cond-false _ zero (suc (seen_number (seen_place new) list)) apart in
          subst At (sym e) (cond-false _ (widened old new ∷ list) (old ∷ sighted list new) apart ∙ ap (λ more. old ∷ more) (sighted-again list new z (omega (arith, e))))
    ]

-- a list that is put whole into one of its length
pub refill-whole : (list new : List Sighting) → length new ≡ length list → refill (length list) list new ≡ new
refill-whole list new e =
    ap (λ n. take (length list) (new ++ drop n list)) e
    ∙ ap (λ rest. take (length list) (new ++ rest)) (drop-length list)
    ∙ ap (take (length list)) (append-nil new)
    ∙ ap (λ n. take n new) (sym e)
    ∙ take-length new

-- the list in which that sighting is written
pub sighted-written : (items now other : List Sighting) (k : ℕ) (both : Parts) (new z : Sighting) → now ≡ items → other ≡ items → k ≡ seen_number (seen_place new) items → both ≡ union (slice_index_or other k z).1 (seen_parts new) → seen_number (seen_place new) items < length items →
    refill (length items) items (slice_set now k ((slice_index_or other k z).0, both, (slice_index_or other k z).2)) ≡ sighted items new
sighted-written items now other k both new z at_now at_other here with_claim below =
    ap (λ list. refill (length items) items (slice_set list k ((slice_index_or other k z).0, both, (slice_index_or other k z).2))) at_now
    ∙ ap (λ parts. refill (length items) items (slice_set items k ((slice_index_or other k z).0, parts, (slice_index_or other k z).2))) with_claim
    ∙ ap (λ list. refill (length items) items (slice_set items k (widened (slice_index_or list k z) new))) at_other
    ∙ ap (λ n. refill (length items) items (slice_set items n (widened (slice_index_or items n z) new))) here
    ∙ refill-whole items (slice_set items (seen_number (seen_place new) items) (widened (slice_index_or items (seen_number (seen_place new) items) z) new)) (length-set items _ _)
    ∙ sym (sighted-again items new z below)

-- one that isn't comes last
pub sighted-first : (list : List Sighting) (new : Sighting) → length list ≤ seen_number (seen_place new) list → sighted list new ≡ list ++ new ∷ []
sighted-first [] new beyond = refl
sighted-first (old ∷ list) new beyond =
    elim (cases_Bool (same_pos (seen_place old) (seen_place new))) [
      | inl same ↦ let e = cond-true _ zero (suc (seen_number (seen_place new) list)) same in absurd (omega (arith, e))
      | inr apart ↦ let e = cond-false _ zero (suc (seen_number (seen_place new) list)) apart in cond-false _ _ _ apart ∙ ap (λ more. old ∷ more) (sighted-first list new (omega (arith, e)))
    ]

-- so does one for whose position a search finds the list's length
pub sighted-unfound : (items searched : List Sighting) (new : Sighting) (k len : ℕ) → searched ≡ items → k ≡ seen_number (seen_place new) searched → len ≡ length items → len ≤ k → sighted items new ≡ items ++ new ∷ []
sighted-unfound items searched new k len same told long beyond =
    let at : k ≡ seen_number (seen_place new) items = told ∙ ap (seen_number (seen_place new)) same in
    sighted-first items new (omega (arith, at, long, beyond))

-- the number of a position from a place of the list on
pub seen_number-drop : (p : Pos) (list : List Sighting) (k : ℕ) (z : Sighting) → k < length list →
    seen_number p (drop k list) ≡ cond (same_pos (slice_index_or list k z).0 p) zero (suc (seen_number p (drop (k + 1) list)))
seen_number-drop p list k z below =
    ap (seen_number p) (drop-cons list k z below)
    ∙ ap (λ n. cond (same_pos (slice_index_or list k z).0 p) zero (suc (seen_number p (drop n list)))) (sym (add-one k))

-- what holds of the positions of a list and of a new one holds then
pub sighted-all : (P : Pos → Type 0) (list : List Sighting) (new : Sighting) → AllByRecursion (λ s. P (seen_place s)) list → P (seen_place new) → AllByRecursion (λ s. P (seen_place s)) (sighted list new)
sighted-all P [] new all one = (one, tt)
sighted-all P (old ∷ list) new all one =
    elim (cases_Bool (same_pos (seen_place old) (seen_place new))) [
      | inl same ↦ rw (cond-true _ _ _ same) all
      | inr apart ↦ rw (cond-false _ _ _ apart) (all.0, sighted-all P list new all.1 one)
    ]

-- no position is twice in the list
abbrev pub Apart : List Sighting → Type 0
Apart [] = Unit {0}
Apart (old ∷ list) = AllByRecursion (λ s. same_pos (seen_place old) (seen_place s) ≡ false) list × Apart list

sighted-apart : (list : List Sighting) (new : Sighting) → Apart list → Apart (sighted list new)
sighted-apart [] new apart = (tt, tt)
sighted-apart (old ∷ list) new apart =
    elim (cases_Bool (same_pos (seen_place old) (seen_place new))) [
      | inl same ↦ rw (cond-true _ _ _ same) apart
      | inr other ↦ rw (cond-false _ _ _ other) (sighted-all (λ p. same_pos (seen_place old) p ≡ false) list new apart.0 other, sighted-apart list new apart.1)
    ]

pub all_sighted-apart : (list more : List Sighting) → Apart list → Apart (all_sighted list more)
all_sighted-apart list [] apart = apart
all_sighted-apart list (new ∷ more) apart = all_sighted-apart (sighted list new) more (sighted-apart list new apart)

pub all_sighted-all : (P : Pos → Type 0) (list more : List Sighting) → AllByRecursion (λ s. P (seen_place s)) list → AllByRecursion (λ s. P (seen_place s)) more → AllByRecursion (λ s. P (seen_place s)) (all_sighted list more)
all_sighted-all P list [] all rest = all
all_sighted-all P list (new ∷ more) all rest = all_sighted-all P (sighted list new) more (sighted-all P list new all rest.0) rest.1

-- whether a position is among these
abbrev pub among : Pos → List Pos → Bool
among p [] = false
among p (q ∷ places) = same_pos q p || among p places

-- these without the first that is p
abbrev without : Pos → List Pos → List Pos
without p [] = []
without p (q ∷ places) = cond (same_pos q p) places (q ∷ without p places)

-- one of two holds, and not the first
pub or_rest : (a b : Bool) → a ≡ false → (a || b) ≡ true → b ≡ true
or_rest true b wrong either = absurd (cc)
or_rest false b is either = either

without-length : (p : Pos) (places : List Pos) → among p places ≡ true → length places ≡ suc (length (without p places))
without-length p [] is = absurd (cc)
without-length p (q ∷ places) is =
    elim (cases_Bool (same_pos q p)) [
      | inl same ↦ ap (λ list. suc (length list)) (sym (cond-true _ places (q ∷ without p places) same))
      | inr apart ↦ ap suc (without-length p places (or_rest _ _ apart is)) ∙ ap (λ list. suc (length list)) (sym (cond-false _ places (q ∷ without p places) apart))
    ]

without-among : (p r : Pos) (places : List Pos) → same_pos p r ≡ false → among r places ≡ true → among r (without p places) ≡ true
without-among p r [] other is = is
without-among p r (q ∷ places) other is =
    elim (cases_Bool (same_pos q p)) [
      | inl same ↦ rw (cond-true _ _ _ same) (or_rest (same_pos q r) _ (ap (λ s. same_pos s r) (same_pos_true q p same) ∙ other) is)
      | inr apart ↦ rw (cond-false _ _ _ apart) (elim (cases_Bool (same_pos q r)) [
        | inl here ↦ or_left (same_pos q r) _ here
        | inr there ↦ or_right (same_pos q r) _ (without-among p r places other (or_rest _ _ there is))
      ])
    ]

all_without : (p : Pos) (places : List Pos) (list : List Sighting) → AllByRecursion (λ s. same_pos p (seen_place s) ≡ false) list → AllByRecursion (λ s. among (seen_place s) places ≡ true) list → AllByRecursion (λ s. among (seen_place s) (without p places) ≡ true) list
all_without p places [] others all = tt
all_without p places (s ∷ list) others all = (without-among p (seen_place s) places others.0 all.0, all_without p places list others.1 all.1)

-- positions that are pairwise two and among these are no more than these
apart-fits : (list : List Sighting) (places : List Pos) → Apart list → AllByRecursion (λ s. among (seen_place s) places ≡ true) list → length list ≤ length places
apart-fits [] places apart all = omega arith
apart-fits (s ∷ list) places apart all =
    let rest = apart-fits list (without (seen_place s) places) apart.1 (all_without (seen_place s) places list apart.0 all.1) in
    let one = without-length (seen_place s) places all.0 in
    omega (arith, rest, one)

-- sightings at these positions are no more, however often each is made
pub all_sighted-fits : (more : List Sighting) (places : List Pos) → AllByRecursion (λ s. among (seen_place s) places ≡ true) more → length (all_sighted [] more) ≤ length places
all_sighted-fits more places all =
    apart-fits (all_sighted [] more) places (all_sighted-apart [] more tt) (all_sighted-all (λ p. among p places ≡ true) [] more tt all)

-- the sightings at the positions from a place of a list on: the one there, and the rest
pub sightings_of-next : (list : List Sighting) (cells : Cells) (parts : Parts) (places : List Pos) (k : ℕ) (z : Pos) → k < length places →
    all_sighted list (sightings_of cells parts (drop k places)) ≡ all_sighted (sighted list (slice_index_or places k z, parts, cells (slice_index_or places k z))) (sightings_of cells parts (drop (k + 1) places))
sightings_of-next list cells parts places k z below =
    ap (λ rest. all_sighted list (sightings_of cells parts rest)) (drop-cons places k z below)
    ∙ ap (λ n. all_sighted (sighted list (slice_index_or places k z, parts, cells (slice_index_or places k z))) (sightings_of cells parts (drop n places))) (sym (add-one k))

-- the sightings at some positions and then at others
pub sightings_of-append : (list : List Sighting) (cells : Cells) (parts : Parts) (some more : List Pos) →
    all_sighted list (sightings_of cells parts (some ++ more)) ≡ all_sighted (all_sighted list (sightings_of cells parts some)) (sightings_of cells parts more)
sightings_of-append list cells parts [] more = refl
sightings_of-append list cells parts (r ∷ some) more = sightings_of-append (sighted list (r, parts, cells r)) cells parts some more

-- the same of positions that each bring some
pub sightings_of-flat_next : (list : List Sighting) (cells : Cells) (parts : Parts) (f : Pos → List Pos) (places : List Pos) (k : ℕ) (z : Pos) → k < length places →
    all_sighted list (sightings_of cells parts (flat_map f (drop k places))) ≡ all_sighted (all_sighted list (sightings_of cells parts (f (slice_index_or places k z)))) (sightings_of cells parts (flat_map f (drop (k + 1) places)))
sightings_of-flat_next list cells parts f places k z below =
    ap (λ rest. all_sighted list (sightings_of cells parts (flat_map f rest))) (drop-cons places k z below)
    ∙ ap (λ n. all_sighted list (sightings_of cells parts (f (slice_index_or places k z) ++ flat_map f (drop n places)))) (sym (add-one k))
    ∙ sightings_of-append list cells parts (f (slice_index_or places k z)) (flat_map f (drop (k + 1) places))

-- nothing more than the sightings at all positions of a list
pub sightings_of-room : (list whole : List Sighting) (cells : Cells) (parts : Parts) (more : List Pos) (n : ℕ) → all_sighted list (sightings_of cells parts more) ≡ whole → length whole ≤ n → length list ≤ n
sightings_of-room list whole cells parts more n is fits =
    let grows = all_sighted-grows list (sightings_of cells parts more) in
    let same = ap length is in
    omega (arith, grows, same)

-- a property of positions is one of sightings there
pub sightings_of-all : (P : Pos → Type 0) (cells : Cells) (parts : Parts) (places : List Pos) → AllByRecursion P places → AllByRecursion (λ s. P (seen_place s)) (sightings_of cells parts places)
sightings_of-all P cells parts [] all = tt
sightings_of-all P cells parts (r ∷ places) all = (all.0, sightings_of-all P cells parts places all.1)

-- claims of the same parts at some positions
pub claims-sightings_of : (cells : Cells) (parts : Parts) (places : List Pos) → with_cells_at cells (map (λ r. claim r parts) places) ≡ sightings_of cells parts places
claims-sightings_of cells parts [] = refl
claims-sightings_of cells parts (r ∷ places) = ap (λ more. (r, parts, cells r) ∷ more) (claims-sightings_of cells parts places)

-- claims and more claims
pub claims-append : (cells : Cells) (some more : List Claim) → with_cells_at cells (some ++ more) ≡ with_cells_at cells some ++ with_cells_at cells more
claims-append cells [] more = refl
claims-append cells (c ∷ some) more = ap (λ rest. sight cells c ∷ rest) (claims-append cells some more)

-- there is room for the next sighting if there is room for all
pub sightings_of-step_room : (list whole : List Sighting) (cells : Cells) (parts : Parts) (places : List Pos) (k : ℕ) (z : Pos) (n : ℕ) → k < length places →
    all_sighted list (sightings_of cells parts (drop k places)) ≡ whole → length whole ≤ n → length (sighted list (slice_index_or places k z, parts, cells (slice_index_or places k z))) ≤ n
sightings_of-step_room list whole cells parts places k z n below is fits =
    sightings_of-room (sighted list (slice_index_or places k z, parts, cells (slice_index_or places k z))) whole cells parts (drop (k + 1) places) n (sym (sightings_of-next list cells parts places k z below) ∙ is) fits

-- and for those that the next position brings
pub sightings_of-flat_room : (list whole : List Sighting) (cells : Cells) (parts : Parts) (f : Pos → List Pos) (places : List Pos) (k : ℕ) (z : Pos) (n : ℕ) → k < length places →
    all_sighted list (sightings_of cells parts (flat_map f (drop k places))) ≡ whole → length whole ≤ n → length (all_sighted list (sightings_of cells parts (f (slice_index_or places k z)))) ≤ n
sightings_of-flat_room list whole cells parts f places k z n below is fits =
    sightings_of-room (all_sighted list (sightings_of cells parts (f (slice_index_or places k z)))) whole cells parts (flat_map f (drop (k + 1) places)) n (sym (sightings_of-flat_next list cells parts f places k z below) ∙ is) fits
