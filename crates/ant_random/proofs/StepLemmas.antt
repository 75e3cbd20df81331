-- The count of steps of a loop that halves a number until nothing is left of it.
use Rattle.std.proofs.Common.{◌≡◌, ℕ, ◌+◌, ◌*◌, ◌/◌, ◌^◌, ◌<◌, ◌≤◌, ap, ◌∙◌, inl, inr, lit<, lt_of_lt_of_le, arith}
use Rattle.std.proofs.Math.Nat.{div-eq_of_lt, pow-le-pow_right}
use Rattle.std.proofs.lemmas.Nat.{shr-shr}
use Rattle.std.proofs.lemmas.Bool.{cases_lt}

-- this many digits of a number are dealt with, at two steps each and one before
pub record IsWalked (whole left before now : ℕ) : Type 0 where
  pub digits : ℕ
  pub left_is : left ≡ whole / 2 ^ digits
  pub within : (k : ℕ) → whole < 2 ^ k → digits ≤ k
  pub steps : now ≤ before + (2 * digits + 1)

-- nothing is dealt with, and one step is taken
pub walked_none : (whole before now : ℕ) → now ≡ before + 1 → IsWalked whole whole before now
walked_none whole before now one = record {
  digits = 0;
  left_is = omega arith;
  within = λ k h. omega arith;
  steps = omega arith;
}

-- if something is left, fewer digits are dealt with than the number has
fewer : (whole digits k : ℕ) → 0 < whole / 2 ^ digits → whole < 2 ^ k → digits + 1 ≤ k
fewer whole digits k left short =
    elim (cases_lt digits k) [
      | inl h ↦ omega arith
      | inr h ↦
          let none : whole / 2 ^ digits ≡ 0 = div-eq_of_lt (lt_of_lt_of_le short (pow-le-pow_right {n = 2} (lit< tt) h)) in
          absurd (omega arith)
    ]

-- one more digit is dealt with
pub walked_more : (whole left before now later : ℕ) → IsWalked whole left before now → 0 < left → later ≤ now + 2 → IsWalked whole (left / 2) before later
walked_more whole left before now later so_far some step = record {
  digits = so_far.digits + 1;
  left_is = ap (λ (n : ℕ). n / 2) so_far.left_is ∙ shr-shr whole so_far.digits 1;
  within = λ k h. fewer whole so_far.digits k (let e = so_far.left_is in omega arith) h;
  steps = let s = so_far.steps in omega arith;
}
