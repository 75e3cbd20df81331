-- Lines that are read by their tokens.
use Rattle.std.proofs.Common.{◌≡◌, ℕ, zero, suc, ◌^◌, ◌<◌, ◌≤◌, Bool, true, false, not, ◌&&◌, cond, eqb, leb, List, [], ◌∷◌, ◌++◌, length, get_or, Option, Some, None, refl, sym, ◌∙◌, ap, arith, nat_le, nat_lt, decimal}
use Rattle.std.proofs.Math.Bool.{and-false}
use Rattle.std.proofs.lemmas.Bool.{and_parts, eq-eqb, eqb-true, le-leb, leb-true, ltb-false, ne_eqb, not-true}
use Rattle.std.proofs.lemmas.Fmt.{decimal_is_IsNumeral, decimal_nonempty, digits_decimal, digits_value-decimal, decimal-digits_value, length-decimal-le, first_decimal, decimal_digit}
use Rattle.std.proofs.lemmas.Slice.Eq.{bytes_eq-Decides}
use Rattle.std.proofs.lemmas.Str.Parse.{digit_from_value, digits_value_short}
use Rattle.std.specs.Int.{IsInRange}
use Rattle.std.specs.List.{list_all, onto_first}
use Rattle.std.specs.Str.{all_ascii_digits}
use Rattle.std.specs.Str.Parse.{AllDigits, digits_value}
use Rattle.ant_base.proofs.Digits.{all_ascii_digits-IsNumeralModel}
use Rattle.ant_base.specs.Number.{within}
use Rattle.match_save.specs.Inner.Readers.{Reader, Spells, Reads, whole}
use Rattle.match_save.specs.Inner.Reading.{is_strict, strict_value, pieces, number, word, line_of}
use Rattle.match_save.specs.Text.{spaced}
use Rattle.match_save.specs.Draft.{most_counted}
use Rattle.match_save.proofs.Readers.Elements.{whole-spells}
use Rattle.match_save.proofs.Readers.Good.{Good, one-good, lead-good}

-- a printed number doesn't begin with a zero, unless it is one
no_zero : (n : ℕ) → n ≤ most_counted → (nat_lt 1 (length (decimal n)) && (eqb (get_or (decimal n) 0 0) 48)) ≡ false
no_zero zero small = rw (decimal_digit 0 (omega arith)) refl
no_zero (suc m) small =
    let first = first_decimal (suc m) (omega arith) (omega arith) in
    rw (ne_eqb (get_or (decimal (suc m)) 0 0) 48 (omega (arith, first))) (and-false (nat_lt 1 (length (decimal (suc m)))))

-- a printed number is strict
strict-decimal : (n : ℕ) → n ≤ most_counted → strict_value (decimal n) ≡ Some n
unfolding strict_value
strict-decimal n small =
    let digits : all_ascii_digits (decimal n) ≡ true = digits_decimal all_ascii_digits-IsNumeralModel n (omega arith) in
    let low : nat_le 1 (length (decimal n)) ≡ true = le-leb 1 (length (decimal n)) (decimal_nonempty n (omega arith)) in
    let high : nat_le (length (decimal n)) 11 ≡ true = le-leb (length (decimal n)) 11 (length-decimal-le 11 n (omega arith) (omega arith) (omega arith)) in
    let first = no_zero n small in
    rw (low, high, digits, first) (ap Some (digits_value-decimal all_ascii_digits-IsNumeralModel n (omega arith)))

not_both : (a b : Bool) → not (a && b) ≡ true → b ≡ true → a ≡ false
not_both false b e f = refl
not_both true true e f = absurd (cc)
not_both true false e f = absurd (cc)

-- a strict number is printed as it stands
strict-known : (token : List ℕ) (n : ℕ) → strict_value token ≡ Some n → token ≡ decimal n
unfolding strict_value
strict-known token n e = go (is_strict token) refl e where
  go : (b : Bool) → is_strict token ≡ b → cond b (Some (digits_value 10 token)) None ≡ Some n → token ≡ decimal n
  go false is e = absurd (cc)
  go true is e =
      let value : digits_value 10 token ≡ n = cc in
      let first = and_parts (nat_le 1 (length token) && nat_le (length token) 11 && all_ascii_digits token) (not (nat_lt 1 (length token) && (eqb (get_or token 0 0) 48))) is in
      let second = and_parts (nat_le 1 (length token) && nat_le (length token) 11) (all_ascii_digits token) first.0 in
      let third = and_parts (nat_le 1 (length token)) (nat_le (length token) 11) second.0 in
      let some = leb-true 1 (length token) third.0 in
      let few = leb-true (length token) 11 third.1 in
      let small = digits_value_short all_ascii_digits-IsNumeralModel token 11 second.1 few in
      let plain : get_or token 0 0 ≡ 48 → length token ≡ 1 = λ zero.
      let short = not_both (nat_lt 1 (length token)) (eqb (get_or token 0 0) 48) first.1 (eq-eqb _ _ zero) in
      omega (arith, ltb-false 1 (length token) short, some) in
      sym (decimal-digits_value all_ascii_digits-IsNumeralModel token second.1 (omega (arith, some)) plain (omega (arith, small))) ∙ ap decimal value

-- a number between two others
abbrev pub IsBetween : ℕ → ℕ → ℕ → Type 0
IsBetween least most n = (least ≤ n) × (n ≤ most)

-- a token is read as a number exactly if it is printed so
pub number-spells : (least most : ℕ) → most ≤ most_counted → Spells (λ token. within least most (strict_value token)) (IsBetween least most) decimal
number-spells least most few = record {
  parses = λ n ok. ap (within least most) (strict-decimal n (omega (arith, ok.1))) ∙ rw (le-leb least n ok.0, le-leb n most ok.1) refl;
  accepted = λ token n e. (known token n e).0;
  spelled = λ token n e. strict-known token n (known token n e).1;
} where
  last : (m n : ℕ) (b : Bool) → (leb least m && leb m most) ≡ b → cond b (Some m) None ≡ Some n → IsBetween least most n × (m ≡ n)
  last m n false is e = absurd (cc)
  last m n true is e =
      let same : m ≡ n = cc in
      let parts = and_parts (leb least m) (leb m most) is in
      let low = leb-true least m parts.0 in
      let high = leb-true m most parts.1 in
      ((omega (arith, low, same), omega (arith, high, same)), same)

  go : (n : ℕ) (told : Option ℕ) → within least most told ≡ Some n → IsBetween least most n × (told ≡ Some n)
  go n None e = absurd (cc)
  go n (Some m) e =
      let found = last m n (leb least m && leb m most) refl e in
      (found.0, ap Some found.1)

  known : (token : List ℕ) (n : ℕ) → within least most (strict_value token) ≡ Some n → IsBetween least most n × (strict_value token ≡ Some n)
  known token n e = go n (strict_value token) e

pub number-good : (least most : ℕ) → most ≤ most_counted → least ≤ most → Good (number least most) (IsBetween least most) (λ n. decimal n ∷ [])
number-good least most few some = one-good (number-spells least most few) least (omega arith, some)

pub word-good : {A : Type 0} {r : Reader (List ℕ) A} {accepts : A → Type 0} {print : A → List (List ℕ)} (text : List ℕ) → Good r accepts print → Good (word text r) accepts (λ (a : A). text ∷ print a)
word-good text first = lead-good ((bytes_eq-Decides text text).1 refl) (λ token passed. sym ((bytes_eq-Decides text token).0 passed)) first

-- whether a text has no space
abbrev pub has_no_space : List ℕ → Bool
has_no_space text = list_all (λ byte. not (eqb byte 32)) text

-- there is a token, and none has a space
abbrev pub AreTokens : List (List ℕ) → Type 0
AreTokens [] = ⊥
AreTokens (token ∷ []) = has_no_space token ≡ true
AreTokens (token ∷ next ∷ tokens) = (has_no_space token ≡ true) × AreTokens (next ∷ tokens)

pieces-token : (token : List ℕ) → has_no_space token ≡ true → pieces token ≡ token ∷ []
pieces-token [] plain = refl
pieces-token (byte ∷ token) plain =
    let parts = and_parts (not (eqb byte 32)) (has_no_space token) plain in
    rw (not-true (eqb byte 32) parts.0, pieces-token token parts.1) refl

pieces-more : (token rest : List ℕ) → has_no_space token ≡ true → pieces (token ++ 32 ∷ rest) ≡ token ∷ pieces rest
pieces-more [] rest plain = refl
pieces-more (byte ∷ token) rest plain =
    let parts = and_parts (not (eqb byte 32)) (has_no_space token) plain in
    rw (not-true (eqb byte 32) parts.0, pieces-more token rest parts.1) refl

-- tokens with a space between them are cut into these tokens
pub pieces-spaced : (tokens : List (List ℕ)) → AreTokens tokens → pieces (spaced tokens) ≡ tokens
pieces-spaced [] are = absurd are
pieces-spaced (token ∷ []) are = pieces-token token are
pieces-spaced (token ∷ next ∷ tokens) are = pieces-more token (spaced (next ∷ tokens)) are.0 ∙ ap (λ l. token ∷ l) (pieces-spaced (next ∷ tokens) are.1)

spaced-onto : (byte : ℕ) (cut : List (List ℕ)) → spaced (onto_first byte cut) ≡ byte ∷ spaced cut
spaced-onto byte [] = refl
spaced-onto byte (token ∷ []) = refl
spaced-onto byte (token ∷ next ∷ tokens) = refl

record IsCut (cut : List (List ℕ)) : Type 0 where
  first : List ℕ
  others : List (List ℕ)
  is : cut ≡ first ∷ others

pieces-some : (line : List ℕ) → IsCut (pieces line)
pieces-some [] = record { first = []; others = []; is = refl }
pieces-some (byte ∷ line) = go (eqb byte 32) (pieces-some line) where
  go : (b : Bool) → IsCut (pieces line) → IsCut (cond b ([] ∷ pieces line) (onto_first byte (pieces line)))
  go true some = record { first = []; others = pieces line; is = refl }
  go false some = record { first = byte ∷ some.first; others = some.others; is = ap (onto_first byte) some.is }

-- a line is its pieces with a space between them
pub spaced-pieces : (line : List ℕ) → spaced (pieces line) ≡ line
spaced-pieces [] = refl
spaced-pieces (byte ∷ line) = go (eqb byte 32) refl (pieces-some line) (spaced-pieces line) where
  go : (b : Bool) → eqb byte 32 ≡ b → IsCut (pieces line) → spaced (pieces line) ≡ line → spaced (cond b ([] ∷ pieces line) (onto_first byte (pieces line))) ≡ byte ∷ line
  go false is some again = spaced-onto byte (pieces line) ∙ ap (λ l. byte ∷ l) again
  go true is some again =
      let space : 32 ≡ byte = sym (eqb-true byte 32 is) in
      ap (λ cut. spaced ([] ∷ cut)) some.is ∙ ap (λ l. 32 ∷ l) (ap spaced (sym some.is) ∙ again) ∙ ap (λ b. b ∷ line) space

digit_is_no_space : (byte : ℕ) → IsInRange 48 57 byte → eqb byte 32 ≡ false
digit_is_no_space byte range = ne_eqb byte 32 (omega arith)

digits_have_no_space : (text : List ℕ) → AllDigits 10 text → has_no_space text ≡ true
digits_have_no_space [] digits = refl
digits_have_no_space (byte ∷ text) digits = rw (digit_is_no_space byte (digit_from_value byte digits.0), digits_have_no_space text digits.1) refl

-- a printed number has no space
pub plain-decimal : (n : ℕ) → n < 2 ^ 64 → has_no_space (decimal n) ≡ true
plain-decimal n small = digits_have_no_space (decimal n) (decimal_is_IsNumeral n small).0.1

-- a line whose tokens are read is the line of these tokens
pub line-spells : {A : Type 0} {r : Reader (List ℕ) A} {accepts : A → Type 0} {print : A → List (List ℕ)} → Reads r accepts print → ((a : A) → accepts a → AreTokens (print a)) → Spells (λ line. whole r (pieces line)) accepts (λ a. spaced (print a))
line-spells {A} {r} {accepts} {print} h plain =
    let spells = whole-spells h in
    record {
      parses = λ a ok. ap (whole r) (pieces-spaced (print a) (plain a ok)) ∙ spells.parses a ok;
      accepted = λ line a e. spells.accepted (pieces line) a e;
      spelled = λ line a e. sym (spaced-pieces line) ∙ ap spaced (spells.spelled (pieces line) a e);
    }

pub line-good : {A : Type 0} {r : Reader (List ℕ) A} {accepts : A → Type 0} {print : A → List (List ℕ)} → Good r accepts print → ((a : A) → accepts a → AreTokens (print a)) → Good (line_of r) accepts (λ (a : A). spaced (print a) ∷ [])
line-good first plain = one-good (line-spells first.reads plain) first.some first.is_some
