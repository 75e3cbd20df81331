-- Sets of markers that are made marker by marker.
use Rattle.std.proofs.Common.{◌≡◌, ◌≢◌, ℕ, ◌+◌, ◌^◌, ◌<◌, ◌≤◌, Bool, true, false, cond, nat_eq, max, refl, sym, ◌∙◌, ap, ap₂, inl, inr, arith, bit_or}
use Rattle.std.specs.Int.{bit_at}
use Rattle.cell_world.specs.declared.marks.Marks.{Marks}
use Rattle.cell_world.specs.Marks.{with_mark}
use Rattle.match_save.specs.Inner.Floor.{with_marker}
use Rattle.match_save.specs.Inner.Written.{with_power}
use Rattle.std.proofs.lemmas.Bool.{cases_eq, eqb-true, eqb-false, lt-ltb}
use Rattle.std.proofs.lemmas.Nat.{or_lt, pow_below}
use Rattle.std.proofs.lemmas.Nat.Bits.{bit_at-lt, bit_at-pow_other, bit_at-pow_same, bit_at_or}

-- a set that has the markers below i of another, and no more
pub record IsFilled (set i made : ℕ) : Type 0 where
  pub low : (j : ℕ) → j < i → bit_at made j ≡ bit_at set j
  pub high : (j : ℕ) → i ≤ j → bit_at made j ≡ 0
  pub small : made < 64

-- one that the other has is added
pub IsFilled-with : (set i made : ℕ) → i < 6 → IsFilled set i made → nat_eq (bit_at set i) 1 ≡ true → IsFilled set (i + 1) (bit_or made (2 ^ i))
IsFilled-with set i made few filled has = record { low = low; high = high; small = or_lt 6 made (2 ^ i) filled.small (pow_below i 6 few) } where
  other : (j : ℕ) → j ≢ i → bit_at (bit_or made (2 ^ i)) j ≡ bit_at made j
  other j apart = bit_at_or made (2 ^ i) j ∙ ap (max (bit_at made j)) (bit_at-pow_other i j apart) ∙ omega arith

  low : (j : ℕ) → j < i + 1 → bit_at (bit_or made (2 ^ i)) j ≡ bit_at set j
  low j below = elim (cases_eq j i) [
    | inl same ↦
        ap (bit_at (bit_or made (2 ^ i))) same ∙ bit_at_or made (2 ^ i) i ∙ ap₂ max (filled.high i (omega arith)) (bit_at-pow_same i)
        ∙ sym (ap (bit_at set) same ∙ eqb-true (bit_at set i) 1 has)
    | inr apart ↦ other j apart ∙ filled.low j (omega (arith, below, apart))
  ]

  high : (j : ℕ) → i + 1 ≤ j → bit_at (bit_or made (2 ^ i)) j ≡ 0
  high j above = other j (λ e. omega (arith, e, above)) ∙ filled.high j (omega (arith, above))

-- one that it hasn't is left out
pub IsFilled-without : (set i made : ℕ) → IsFilled set i made → nat_eq (bit_at set i) 1 ≡ false → IsFilled set (i + 1) made
IsFilled-without set i made filled hasnt = record { low = low; high = λ j above. filled.high j (omega (arith, above)); small = filled.small } where
  low : (j : ℕ) → j < i + 1 → bit_at made j ≡ bit_at set j
  low j below = elim (cases_eq j i) [
    | inl same ↦
        let none : bit_at set i ≡ 0 = (let l = bit_at-lt set i in let o = eqb-false (bit_at set i) 1 hasnt in omega (arith, l, o)) in
        ap (bit_at made) same ∙ filled.high i (omega arith) ∙ sym (ap (bit_at set) same ∙ none)
    | inr apart ↦ filled.low j (omega (arith, below, apart))
  ]

-- the next marker, if it is there
pub IsFilled-next : (set i : ℕ) (marks : Marks) → i < 6 → IsFilled set i marks.set → IsFilled set (i + 1) (with_marker marks set i).set
IsFilled-next set i marks few filled = go (nat_eq (bit_at set i) 1) refl where
  go : (b : Bool) → nat_eq (bit_at set i) 1 ≡ b → IsFilled set (i + 1) (cond b (with_mark marks i) marks).set
  go true is = IsFilled-with set i marks.set few filled is
  go false is = IsFilled-without set i marks.set filled is

-- the next power of two, if its marker is set
pub IsFilled-power : (marks : Marks) (i set : ℕ) → i < 6 → IsFilled marks.set i set → IsFilled marks.set (i + 1) (with_power marks set i)
IsFilled-power marks i set few filled = rw (lt-ltb i 6 few) (go (nat_eq (bit_at marks.set i) 1) refl) where
  go : (b : Bool) → nat_eq (bit_at marks.set i) 1 ≡ b → IsFilled marks.set (i + 1) (cond b (bit_or set (2 ^ i)) set)
  go true is = IsFilled-with marks.set i set few filled is
  go false is = IsFilled-without marks.set i set filled is
