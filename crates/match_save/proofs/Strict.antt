-- Strict numbers, read digit by digit.
use Rattle.std.proofs.Common.{◌≡◌, ℕ, ◌<◌, ◌≤◌, false, not, ◌&&◌, eqb, List, length, get_or, take, None, refl, ◌∙◌, ap, arith, nat_le, nat_lt}
use Rattle.std.proofs.Math.Bool.{and-false}
use Rattle.std.proofs.lemmas.List.{length-take}
use Rattle.std.proofs.lemmas.Str.Parse.{digits_value_short, numerals_by_value, tells_digits}
use Rattle.std.specs.Str.{all_ascii_digits}
use Rattle.std.specs.Str.Parse.{AllDigits}
use Rattle.ant_base.proofs.Digits.{Read}
use Rattle.match_save.specs.Inner.Reading.{is_strict, strict_value}

-- eleven digits make a number below 10 ^ 11
pub read_small : (text : List ℕ) (at n : ℕ) → length text ≤ 11 → Read text at n → n < 100000000000
read_small text at n short read =
    let small = digits_value_short (numerals_by_value (AllDigits 10) tells_digits) (take at text) 11 read.digits (omega (arith, length-take at text)) in
    omega (arith, small, read.value)

-- a text with a byte that is not a digit is not a number
pub none_of_other : (text : List ℕ) → all_ascii_digits text ≡ false → strict_value text ≡ None
unfolding strict_value
none_of_other text other =
    let no : is_strict text ≡ false =
    ap (λ b. (nat_le 1 (length text) && nat_le (length text) 11 && b) && not (nat_lt 1 (length text) && (eqb (get_or text 0 0) 48))) other
    ∙ ap (λ b. b && not (nat_lt 1 (length text) && (eqb (get_or text 0 0) 48))) (and-false (nat_le 1 (length text) && nat_le (length text) 11)) in
    rw no refl
