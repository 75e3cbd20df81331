-- Decimal digits and their value.
use Rattle.std.proofs.Common.{◌≡◌, ℕ, ◌+◌, ◌*◌, ◌-◌, ◌<◌, ◌≤◌, true, false, Some, None, ◌&&◌, List, length, take, drop, get_or, refl, ◌∙◌, ap, arith}
use Rattle.std.proofs.Math.Bool.{and-false}
use Rattle.std.proofs.lemmas.List.{drop_more, length-take}
use Rattle.std.proofs.lemmas.Str.{digit_value_digit}
use Rattle.std.proofs.lemmas.Str.Parse.{IsNumeralModel, digit_from_value, numerals_by_value, tells_all_ascii_digits, tells_digits, digits_value_short}
use Rattle.std.proofs.lemmas.Int.Digits.{digits_value_more, digits_more}
use Rattle.std.proofs.lemmas.Bool.{le-leb}
use Rattle.std.proofs.lemmas.Fmt.{decimal_nonempty, digits_decimal, digits_value-decimal, length-decimal-le}
use Rattle.std.specs.Fmt.{decimal}
use Rattle.std.specs.Prelude.{nat_le}
use Rattle.std.specs.Char.{digit_value, is_ascii_digit}
use Rattle.std.specs.Str.{all_ascii_digits}
use Rattle.std.specs.Str.Parse.{digits_value, AllDigits}
use Rattle.ant_base.specs.Number.{decimal_value}

-- how far a text has been read: all bytes so far are digits, and n is their value
pub record Read (text : List ℕ) (at n : ℕ) : Type 0 where
  pub digits : AllDigits 10 (take at text)
  pub value : n ≡ digits_value 10 (take at text)
  pub rest : all_ascii_digits text ≡ all_ascii_digits (drop at text)

-- ten digits make a number below 10 ^ 10
pub read_small : (text : List ℕ) (at n : ℕ) → length text ≤ 10 → Read text at n → n < 10000000000
read_small text at n short read =
    let small = digits_value_short (numerals_by_value (AllDigits 10) tells_digits) (take at text) 10 read.digits (omega (arith, length-take at text)) in
    omega (arith, small, read.value)

-- one digit more
pub read_more : (text : List ℕ) (at n : ℕ) → at < length text → is_ascii_digit (get_or text at 0) ≡ true → digit_value (get_or text at 0) < 10 → Read text at n → Read text (at + 1) (n * 10 + (get_or text at 0 - 48))
read_more text at n lt test small read =
    let byte = get_or text at 0 in
    let digit = digit_value_digit byte (digit_from_value byte small) in
    record {
      digits = digits_more 10 text at lt read.digits small;
      value = omega (arith, digits_value_more 10 text at lt, read.value, digit);
      rest = read.rest ∙ ap all_ascii_digits (drop_more text at 0 lt) ∙ rw test refl;
    }

-- a byte that is not a digit
pub read_other : (text : List ℕ) (at n : ℕ) → at < length text → is_ascii_digit (get_or text at 0) ≡ false → Read text at n → all_ascii_digits text ≡ false
read_other text at n lt other read = read.rest ∙ ap all_ascii_digits (drop_more text at 0 lt) ∙ rw other refl

-- a text with a byte that is not a digit is not a number
pub none_of_other : (text : List ℕ) → all_ascii_digits text ≡ false → decimal_value text ≡ None
unfolding decimal_value
none_of_other text other =
    let no : (nat_le 1 (length text) && nat_le (length text) 10 && all_ascii_digits text) ≡ false = ap (λ b. (nat_le 1 (length text) && nat_le (length text) 10) && b) other ∙ and-false (nat_le 1 (length text) && nat_le (length text) 10) in
    rw no refl

-- texts of digits alone are read as numerals in base ten
pub all_ascii_digits-IsNumeralModel : IsNumeralModel (λ ds. all_ascii_digits ds ≡ true) (digits_value 10)
all_ascii_digits-IsNumeralModel = numerals_by_value (λ ds. all_ascii_digits ds ≡ true) tells_all_ascii_digits

-- a printed number is read back
pub decimal_value-decimal : (n : ℕ) → n < 10000000000 → decimal_value (decimal n) ≡ Some n
unfolding decimal_value
decimal_value-decimal n small =
    let digits : all_ascii_digits (decimal n) ≡ true = digits_decimal all_ascii_digits-IsNumeralModel n (omega arith) in
    let low : nat_le 1 (length (decimal n)) ≡ true = le-leb 1 (length (decimal n)) (decimal_nonempty n (omega arith)) in
    let high : nat_le (length (decimal n)) 10 ≡ true = le-leb (length (decimal n)) 10 (length-decimal-le 10 n (omega arith) small (omega arith)) in
    rw (low, high, digits) (ap Some (digits_value-decimal all_ascii_digits-IsNumeralModel n (omega arith)))
