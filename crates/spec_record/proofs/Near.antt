-- The cells near one, marked as they are noted.
use Rattle.std.proofs.Common.{◌≡◌, inl, inr, ⊎_elim, ℕ, ◌<◌, Bool, true, false, ◌||◌, List, [], ◌∷◌, ◌++◌, replicate, slice_index_or, slice_set, refl, sym, ◌∙◌, ap, subst, arith}
use Rattle.std.proofs.Math.Bool.{or-false, or-true, or_assoc}
use Rattle.std.specs.List.{AllByRecursion}
use Rattle.std.proofs.lemmas.Bool.{cases_Bool, cases_eq, cond-false, cond-true, or_parts}
use Rattle.std.proofs.lemmas.List.{get_or-replicate, get_or-set_other, get_or-set_same, length-replicate, length-set}
use Rattle.list_lemmas.proofs.AllElements.{AllByRecursion-append}
use Rattle.hex_geometry.specs.declared.position.Pos.{Pos}
use Rattle.hex_geometry.specs.declared.direction.Dir.{Dir}
use Rattle.hex_geometry.specs.declared.direction.Dir.TheVariants.{East}
use Rattle.hex_geometry.specs.Direction.{dir_of}
use Rattle.hex_geometry.specs.Neighbourhood.{adjacent_pos, neighbours_of}
use Rattle.hex_geometry.specs.Position.{same_pos}
use Rattle.hex_geometry.proofs.Beside.{neighbours_of_at}
use Rattle.hex_geometry.proofs.Places.{pos_same, same_pos_apart, same_pos_equal}
use Rattle.cell_world.specs.declared.cell.Cell.{Cell}
use Rattle.cell_world.specs.declared.part.Part.TheVariants as part
use Rattle.cell_world.specs.declared.part.Parts.{Parts}
use Rattle.cell_world.specs.Parts.{only, union}
use Rattle.spec_record.proofs.Sighting.{or_rest}
use Rattle.spec_record.specs.Claims.{Sighting, seen_cell, seen_parts, seen_place}
use Rattle.spec_record.specs.Inner.Near.{AreSeen, IsWithin, is_seen, number_near}
use Rattle.spec_record.specs.Inner.Sightings.{sighted}

-- a neighbour is at most one column and row away
pub within-beside : (q : Pos) (d : Dir) → IsWithin 1 q (adjacent_pos q d)
unfolding adjacent_pos
within-beside q East = record { right = omega arith; left = omega arith; down = omega arith; up = omega arith }
within-beside q it = record { right = omega arith; left = omega arith; down = omega arith; up = omega arith }

pub within-self : (q : Pos) → IsWithin 1 q q
within-self q = record { right = omega arith; left = omega arith; down = omega arith; up = omega arith }

pub within-back : (n : ℕ) (q r : Pos) → IsWithin n q r → IsWithin n r q
within-back n q r near = record { right = near.left; left = near.right; down = near.up; up = near.down }

within-then : (q r s : Pos) → IsWithin 1 q r → IsWithin 1 r s → IsWithin 2 q s
within-then q r s first second =
    let a = first.right in
    let b = first.left in
    let d = first.down in
    let e = first.up in
    let f = second.right in
    let g = second.left in
    let h = second.down in
    let i = second.up in
    record { right = omega (arith, a, f); left = omega (arith, b, g); down = omega (arith, d, h); up = omega (arith, e, i) }

pub within-two : (q r : Pos) → IsWithin 1 q r → IsWithin 2 q r
within-two q r near = within-then q r r near (within-self r)

-- the neighbour at a place of the list
pub within-at : (q : Pos) (k : ℕ) (z : Pos) → k < 6 → IsWithin 1 q (slice_index_or (neighbours_of q) k z)
within-at q k z below = subst (IsWithin 1 q) (sym (neighbours_of_at q k z below)) (within-beside q (dir_of k))

pub within-at_two : (q r : Pos) (k : ℕ) (z : Pos) → IsWithin 1 q r → k < 6 → IsWithin 2 q (slice_index_or (neighbours_of r) k z)
within-at_two q r k z beside below = within-then q r (slice_index_or (neighbours_of r) k z) beside (within-at r k z below)

-- the numbers of the cells near one
pub number_near-below : (q r : Pos) → IsWithin 2 q r → number_near q r < 25
number_near-below q r near = let a = near.right in let b = near.down in omega (arith, a, b)

number_near-one : (q r s : Pos) → IsWithin 2 q r → IsWithin 2 q s → number_near q r ≡ number_near q s → r ≡ s
number_near-one q r s first second same =
    let a = first.right in
    let b = first.left in
    let d = first.down in
    let e = first.up in
    let f = second.right in
    let g = second.left in
    let h = second.down in
    let i = second.up in
    pos_same (omega (arith, a, b, d, e, f, g, h, i, same)) (omega (arith, a, b, d, e, f, g, h, i, same))

-- a position is in a list with one more where it is that one's, or was in it
is_seen-more : (list : List Sighting) (new : Sighting) (p : Pos) → is_seen p (list ++ new ∷ []) ≡ (is_seen p list || same_pos (seen_place new) p)
is_seen-more [] new p = or-false (same_pos (seen_place new) p)
is_seen-more (old ∷ list) new p = ap (λ b. same_pos (seen_place old) p || b) (is_seen-more list new p) ∙ sym (or_assoc (same_pos (seen_place old) p) (is_seen p list) (same_pos (seen_place new) p))

-- a position that isn't in the list comes last
pub sighted-unseen : (list : List Sighting) (new : Sighting) → is_seen (seen_place new) list ≡ false → sighted list new ≡ list ++ new ∷ []
sighted-unseen [] new none = refl
sighted-unseen (old ∷ list) new none =
    let both = or_parts (same_pos (seen_place old) (seen_place new)) (is_seen (seen_place new) list) none in
    cond-false _ _ _ both.0 ∙ ap (λ more. old ∷ more) (sighted-unseen list new both.1)

-- one that is in the list, if the parts were named before, changes nothing
pub sighted-seen : (list : List Sighting) (p : Pos) (parts : Parts) (cell : Cell) → is_seen p list ≡ true → AllByRecursion (λ (s : Sighting). union (seen_parts s) parts ≡ seen_parts s) list → sighted list (p, parts, cell) ≡ list
sighted-seen [] p parts cell is named = absurd (cc)
sighted-seen (old ∷ list) p parts cell is named =
    elim (cases_Bool (same_pos (seen_place old) p)) [
      | inl same ↦ cond-true _ _ _ same ∙ ap (λ (both : Parts). (seen_place old, both, seen_cell old) ∷ list) named.0
      | inr apart ↦ cond-false _ _ _ apart ∙ ap (λ more. old ∷ more) (sighted-seen list p parts cell (or_rest (same_pos (seen_place old) p) (is_seen p list) apart is) named.1)
    ]

-- one more is marked and listed
AreSeen-more : (q : Pos) (seen : List Bool) (list : List Sighting) (r : Pos) (parts : Parts) (cell : Cell) → IsWithin 2 q r → union parts (only part.Who) ≡ parts → AreSeen q seen list →
    AreSeen q (slice_set seen (number_near q r) true) (list ++ (r, parts, cell) ∷ [])
AreSeen-more q seen list r parts cell near named before = record {
  sized = length-set seen (number_near q r) true ∙ before.sized;
  marks = λ s within. ⊎_elim
      (λ same.
      let one : s ≡ r = number_near-one q s r within near same in
      ap (λ k. slice_index_or (slice_set seen (number_near q r) true) k false) same
      ∙ get_or-set_same seen (number_near q r) true false (subst (λ n. number_near q r < n) (sym before.sized) (number_near-below q r near))
      ∙ sym (is_seen-more list (r, parts, cell) s ∙ ap (λ b. is_seen s list || b) (same_pos_equal r s (sym one)) ∙ or-true (is_seen s list)))
      (λ other.
      get_or-set_other seen (number_near q r) (number_near q s) true false other
      ∙ before.marks s within
      ∙ sym (is_seen-more list (r, parts, cell) s ∙ ap (λ b. is_seen s list || b) (same_pos_apart r s (λ e. other (ap (number_near q) (sym e)))) ∙ or-false (is_seen s list)))
      (cases_eq (number_near q s) (number_near q r));
  named = AllByRecursion-append (λ (s : Sighting). union (seen_parts s) (only part.Who) ≡ seen_parts s) list ((r, parts, cell) ∷ []) before.named (named, tt);
}

-- who is at a position is noted where it wasn't
pub AreSeen-noted : (q : Pos) (seen : List Bool) (list : List Sighting) (r : Pos) (cell : Cell) → IsWithin 2 q r → AreSeen q seen list → is_seen r list ≡ false →
    AreSeen q (slice_set seen (number_near q r) true) (sighted list (r, only part.Who, cell))
AreSeen-noted q seen list r cell near before none =
    subst (AreSeen q (slice_set seen (number_near q r) true)) (sym (sighted-unseen list (r, only part.Who, cell) none)) (AreSeen-more q seen list r (only part.Who) cell near refl before)

-- the first one
none_seen : (q : Pos) → AreSeen q (replicate 25 false) []
none_seen q = record {
  sized = length-replicate 25 false;
  marks = λ r near. get_or-replicate 25 (number_near q r) false false (number_near-below q r near);
  named = tt;
}

pub AreSeen-first : (q r : Pos) (parts : Parts) (cell : Cell) → IsWithin 2 q r → union parts (only part.Who) ≡ parts →
    AreSeen q (slice_set (replicate 25 false) (number_near q r) true) ((r, parts, cell) ∷ [])
AreSeen-first q r parts cell near named = AreSeen-more q (replicate 25 false) [] r parts cell near named (none_seen q)
