-- Markers as the bits of a number.
use Rattle.std.proofs.Common.{◌≡◌, ◌≢◌, ◌↔◌, inl, inr, ℕ, suc, zero, ◌-◌, ◌^◌, ◌<◌, ◌≤◌, Bool, true, false, ◌&&◌, nat_eq, nat_lt, List, [], ◌∷◌, get_or, refl, sym, ap, ◌∙◌, arith}
use Rattle.std.proofs.Math.Bool.{and-false}
use Rattle.std.proofs.lemmas.Bool.{and_parts, or_cases, lt-ltb, ltb-true, false≢true}
use Rattle.std.proofs.lemmas.List.Folds.{list_any_at}
use Rattle.std.proofs.lemmas.Nat.{and_le_l, or_lt, pow_below}
use Rattle.std.proofs.lemmas.Nat.Bits.{bit_at-zero, bit_at-lt, bit_at_and, bit_at_or, bit_at_not, bit_at-pow_same, bit_at-pow_other, same_from_bits_below}
use Rattle.std.specs.Int.{bit_at, w8}
use Rattle.std.specs.Int.Bits.{bit_and}
use Rattle.std.specs.List.{list_any}
use Rattle.cell_world.specs.declared.marks.Marks.{Marks}
use Rattle.cell_world.specs.Marks.{IsOfSix, has_any_mark, has_mark, no_marks, with_mark, without_mark}

-- a marker whose bit is this
has_mark-bit : (marks : Marks) (i b : ℕ) → bit_at marks.set i ≡ b → has_mark marks i ≡ (nat_lt i 6 && nat_eq b 1)
has_mark-bit marks i b is = ap (λ n. nat_lt i 6 && nat_eq n 1) is

-- the empty set has no marker
pub has_mark-empty : (i : ℕ) → has_mark no_marks i ≡ false
has_mark-empty i = has_mark-bit no_marks i 0 (bit_at-zero i) ∙ and-false (nat_lt i 6)

-- a marker is one of the six
pub has_mark-six : (marks : Marks) (i : ℕ) → has_mark marks i ≡ true → i < 6
has_mark-six marks i has = ltb-true i 6 (and_parts (nat_lt i 6) (nat_eq (bit_at marks.set i) 1) has).0

-- the marker that was added
pub has_mark-with_same : (marks : Marks) (i : ℕ) → i < 6 → has_mark (with_mark marks i) i ≡ true
has_mark-with_same marks i known =
    has_mark-bit (with_mark marks i) i 1 (omega (arith, bit_at_or marks.set (2 ^ i) i, bit_at-pow_same i, bit_at-lt marks.set i)) ∙ ap (λ b. b && nat_eq 1 1) (lt-ltb i 6 known)

-- the others stay
pub has_mark-with_other : (marks : Marks) (i j : ℕ) → j ≢ i → has_mark (with_mark marks i) j ≡ has_mark marks j
has_mark-with_other marks i j apart =
    has_mark-bit (with_mark marks i) j (bit_at marks.set j) (omega (arith, bit_at_or marks.set (2 ^ i) j, bit_at-pow_other i j apart))

-- the bits of all markers but one
others : (i j : ℕ) → i < 6 → j < 6 → bit_at (255 - 2 ^ i) j ≡ 1 - bit_at (2 ^ i) j
others i j known here = bit_at_not w8 (2 ^ i) j (pow_below i 8 (omega arith)) (omega arith)

-- the marker that was taken away
pub has_mark-without_same : (marks : Marks) (i : ℕ) → i < 6 → has_mark (without_mark marks i) i ≡ false
has_mark-without_same marks i known =
    has_mark-bit (without_mark marks i) i 0 (omega (arith, bit_at_and marks.set (255 - 2 ^ i) i, others i i known known, bit_at-pow_same i)) ∙ and-false (nat_lt i 6)

-- the others stay
pub has_mark-without_other : (marks : Marks) (i j : ℕ) → i < 6 → j ≢ i → has_mark (without_mark marks i) j ≡ has_mark marks j
has_mark-without_other marks i j known apart = go (nat_lt j 6) refl where
  go : (b : Bool) → nat_lt j 6 ≡ b → has_mark (without_mark marks i) j ≡ has_mark marks j
  go true early =
      has_mark-bit (without_mark marks i) j (bit_at marks.set j)
      (omega (arith, bit_at_and marks.set (255 - 2 ^ i) j, others i j known (ltb-true j 6 early), bit_at-pow_other i j apart, bit_at-lt marks.set j))
  go false late = ap (λ b. b && nat_eq (bit_at (bit_and marks.set (255 - 2 ^ i)) j) 1) late ∙ sym (ap (λ b. b && nat_eq (bit_at marks.set j) 1) late)

-- some item passes where any does
some_item : (test : ℕ → Bool) (items : List ℕ) → list_any test items ≡ true → (i : ℕ) × (test i ≡ true)
some_item test [] any = absurd (false≢true any)
some_item test (i ∷ items) any = elim (or_cases (test i) (list_any test items) any) [ inl here ↦ (i, here) | inr later ↦ some_item test items later ]

-- the six markers in their order
sixth : (i : ℕ) → i < 6 → get_or (0 ∷ 1 ∷ 2 ∷ 3 ∷ 4 ∷ 5 ∷ []) i 0 ≡ i
sixth (suc (suc (suc (suc (suc (suc i)))))) known = absurd (omega arith)
sixth it known = refl

-- a set has any marker where it has one
pub has_any_mark-one : (marks : Marks) → (has_any_mark marks ≡ true) ↔ ((i : ℕ) × (has_mark marks i ≡ true))
has_any_mark-one marks = (
  some_item (has_mark marks) (0 ∷ 1 ∷ 2 ∷ 3 ∷ 4 ∷ 5 ∷ []),
  λ one. let known : one.0 < 6 = has_mark-six marks one.0 one.1 in
      list_any_at (has_mark marks) (0 ∷ 1 ∷ 2 ∷ 3 ∷ 4 ∷ 5 ∷ []) one.0 0 known (ap (has_mark marks) (sixth one.0 known) ∙ one.1),
)

-- a marker more leaves a set of the six one of the six
pub IsOfSix-with : (marks : Marks) (i : ℕ) → i < 6 → IsOfSix marks → IsOfSix (with_mark marks i)
IsOfSix-with marks i known six = or_lt 6 marks.set (2 ^ i) six (pow_below i 6 known)

-- and so does a marker less
pub IsOfSix-without : (marks : Marks) (i : ℕ) → IsOfSix marks → IsOfSix (without_mark marks i)
IsOfSix-without marks i six = let less : bit_and marks.set (255 - 2 ^ i) ≤ marks.set = and_le_l marks.set (255 - 2 ^ i) in omega arith

-- a marker's bit is 1 exactly if the set has it
bit-has_mark : (marks : Marks) (i : ℕ) → i < 6 → nat_eq (bit_at marks.set i) 1 ≡ has_mark marks i
bit-has_mark marks i known = sym (ap (λ b. b && nat_eq (bit_at marks.set i) 1) (lt-ltb i 6 known))

-- two bits that are 1 alike are one
same_bit : (a b : ℕ) → a < 2 → b < 2 → nat_eq a 1 ≡ nat_eq b 1 → a ≡ b
same_bit zero zero low low' same = refl
same_bit zero (suc zero) low low' same = absurd (false≢true same)
same_bit (suc zero) zero low low' same = absurd (false≢true (sym same))
same_bit (suc zero) (suc zero) low low' same = refl
same_bit (suc (suc a)) b low low' same = absurd (omega arith)
same_bit it b low low' same = absurd (omega arith)

-- two sets of the six that have the same markers are one
pub same_marks : (marks other : Marks) → IsOfSix marks → IsOfSix other → ((i : ℕ) → i < 6 → has_mark marks i ≡ has_mark other i) → marks ≡ other
same_marks marks other six other_six same =
    let join : ℕ → Marks = λ n. record { set = n } in
    ap join (same_from_bits_below 6 marks.set other.set six other_six λ i known.
    same_bit (bit_at marks.set i) (bit_at other.set i) (bit_at-lt marks.set i) (bit_at-lt other.set i) (bit-has_mark marks i known ∙ same i known ∙ sym (bit-has_mark other i known)))
