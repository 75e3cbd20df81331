-- Lines of a text.
use Rattle.std.proofs.Common.{◌≡◌, ℕ, suc, ◌+◌, ◌-◌, ◌^◌, ◌<◌, ◌≤◌, Bool, true, false, not, cond, List, [], ◌∷◌, ◌++◌, length, take, drop, get_or, map, refl, ◌∙◌, ap, append_assoc, arith}
use Rattle.std.proofs.lemmas.Bool.{and_from, and_parts, ne_eqb, not-true}
use Rattle.std.proofs.lemmas.List.{take_all}
use Rattle.std.proofs.lemmas.List.Folds.{list_all-append}
use Rattle.std.proofs.lemmas.List.Sums.{prefix_len_is, suffix_len_is}
use Rattle.std.proofs.lemmas.Str.Parse.{digit_at, digit_from_value}
use Rattle.std.proofs.lemmas.Fmt.{decimal_is_IsNumeral}
use Rattle.std.specs.Int.{IsInRange}
use Rattle.std.specs.List.{flat_map, prefix_len, suffix_len, onto_first}
use Rattle.std.specs.Str.Parse.{AllDigits}
use Rattle.std.specs.Fmt.{decimal}
use Rattle.ant_base.specs.Lines.{is_lf, lines_of, first_line, after_line, has_no_lf, is_separator, trimmed}

-- how many bytes stand before the first LF
abbrev pub line_length : List ℕ → ℕ
line_length text = prefix_len (λ byte. not (is_lf byte)) text

-- the first line ends before the first LF
pub first_line-take : (text : List ℕ) → first_line text ≡ take (line_length text) text
first_line-take [] = refl
first_line-take (byte ∷ text) = go (is_lf byte) (first_line-take text) where
  go : (lf : Bool) → first_line text ≡ take (line_length text) text → cond lf [] (byte ∷ first_line text) ≡ take (cond (not lf) (1 + line_length text) 0) (byte ∷ text)
  go true same = refl
  go false same = let next : 1 + line_length text ≡ suc (line_length text) = omega arith in rw next (ap (λ line. byte ∷ line) same)

-- what follows the first line begins after the first LF
pub after_line-drop : (text : List ℕ) → after_line text ≡ drop 1 (drop (line_length text) text)
after_line-drop [] = refl
after_line-drop (byte ∷ text) = go (is_lf byte) (after_line-drop text) where
  go : (lf : Bool) → after_line text ≡ drop 1 (drop (line_length text) text) → cond lf text (after_line text) ≡ drop 1 (drop (cond (not lf) (1 + line_length text) 0) (byte ∷ text))
  go true same = refl
  go false same = let next : 1 + line_length text ≡ suc (line_length text) = omega arith in rw next same

-- a text that isn't empty is its first line, and then the lines of the rest
pub lines_of-first : (text : List ℕ) → 0 < length text → lines_of text ≡ first_line text ∷ lines_of (after_line text)
lines_of-first [] some = absurd (omega arith)
lines_of-first (byte ∷ []) some = elim (is_lf byte) as (λ lf. cond lf ([] ∷ []) ((byte ∷ []) ∷ []) ≡ cond lf [] (byte ∷ []) ∷ lines_of (cond lf [] [])) [ true ↦ refl | false ↦ refl ]
lines_of-first (byte ∷ next ∷ text) some = go (is_lf byte) (lines_of-first (next ∷ text) (omega arith)) where
  go : (lf : Bool) → lines_of (next ∷ text) ≡ first_line (next ∷ text) ∷ lines_of (after_line (next ∷ text))
      → cond lf ([] ∷ lines_of (next ∷ text)) (onto_first byte (lines_of (next ∷ text))) ≡ cond lf [] (byte ∷ first_line (next ∷ text)) ∷ lines_of (cond lf (next ∷ text) (after_line (next ∷ text)))
  go true cut = refl
  go false cut = rw cut refl

-- a line, its LF, and the lines of the rest
pub lines_of-line : (line rest : List ℕ) → has_no_lf line ≡ true → lines_of (line ++ 10 ∷ rest) ≡ line ∷ lines_of rest
lines_of-line [] rest e = refl
lines_of-line (byte ∷ line) rest e =
    let parts = and_parts (not (is_lf byte)) (has_no_lf line) e in
    rw (not-true (is_lf byte) parts.0, lines_of-line line rest parts.1) refl

length-onto_first : (byte : ℕ) (lines : List (List ℕ)) → length (onto_first byte lines) ≤ suc (length lines)
length-onto_first byte [] = omega arith
length-onto_first byte (line ∷ lines) = omega arith

-- there are no more lines than bytes
pub length-lines_of : (text : List ℕ) → length (lines_of text) ≤ length text
length-lines_of [] = omega arith
length-lines_of (byte ∷ text) =
    elim (is_lf byte) as (λ lf. length (cond lf ([] ∷ lines_of text) (onto_first byte (lines_of text))) ≤ suc (length text))
    [ true ↦ omega (arith, length-lines_of text) | false ↦ omega (arith, length-lines_of text, length-onto_first byte (lines_of text)) ]

-- two texts without LF
pub has_no_lf-append : (a b : List ℕ) → has_no_lf a ≡ true → has_no_lf b ≡ true → has_no_lf (a ++ b) ≡ true
has_no_lf-append a b p q = rw (list_all-append (λ byte. not (is_lf byte)) a b) (and_from _ _ p q)

digit_is_no_lf : (byte : ℕ) → IsInRange 48 57 byte → is_lf byte ≡ false
digit_is_no_lf byte range = ne_eqb byte 10 (omega arith)

digit_is_no_separator : (byte : ℕ) → IsInRange 48 57 byte → is_separator byte ≡ false
digit_is_no_separator byte range = rw (ne_eqb byte 32 (omega arith), ne_eqb byte 9 (omega arith), ne_eqb byte 13 (omega arith)) refl

digits_have_no_lf : (text : List ℕ) → AllDigits 10 text → has_no_lf text ≡ true
digits_have_no_lf [] digits = refl
digits_have_no_lf (byte ∷ text) digits = rw (digit_is_no_lf byte (digit_from_value byte digits.0), digits_have_no_lf text digits.1) refl

-- a printed number has no LF
pub has_no_lf-decimal : (n : ℕ) → n < 2 ^ 64 → has_no_lf (decimal n) ≡ true
has_no_lf-decimal n small = digits_have_no_lf (decimal n) (decimal_is_IsNumeral n small).0.1

-- a text that neither begins nor ends with a separator
pub trimmed-plain : (text : List ℕ) → is_separator (get_or text 0 0) ≡ false → is_separator (get_or text (length text - 1) 0) ≡ false → trimmed text ≡ text
trimmed-plain text first last =
    let front = prefix_len_is is_separator text 0 0 (omega arith) (λ k lt. absurd (omega arith)) (λ _. first) in
    let back : suffix_len is_separator text ≡ 0 = suffix_len_is is_separator text (length text) 0 (omega arith) (λ k low high. absurd (omega arith)) (λ _. last) ∙ omega arith in
    rw front (rw back (take_all _ text (omega arith)))

-- a printed number has no separators round it
pub trimmed-decimal : (n : ℕ) → n < 2 ^ 64 → trimmed (decimal n) ≡ decimal n
trimmed-decimal n small =
    let digits = (decimal_is_IsNumeral n small).0 in
    trimmed-plain (decimal n) (digit_is_no_separator _ (digit_at (decimal n) 0 digits.1 digits.0)) (digit_is_no_separator _ (digit_at (decimal n) (length (decimal n) - 1) digits.1 (omega (arith, digits.0))))

-- the lines of texts that each end in their only LF
pub lines_of-joined : {X : Type 0} (line : X → List ℕ) (xs : List X) (rest : List ℕ) → ((x : X) → has_no_lf (line x) ≡ true) → lines_of (flat_map (λ x. line x ++ 10 ∷ []) xs ++ rest) ≡ map line xs ++ lines_of rest
lines_of-joined line [] rest plain = refl
lines_of-joined line (x ∷ xs) rest plain =
    let more = flat_map (λ y. line y ++ 10 ∷ []) xs ++ rest in
    let parts : (((line x ++ 10 ∷ []) ++ flat_map (λ y. line y ++ 10 ∷ []) xs) ++ rest) ≡ line x ++ (10 ∷ more) = simp append_assoc in
    ap lines_of parts ∙ lines_of-line (line x) more (plain x) ∙ ap (λ lines. line x ∷ lines) (lines_of-joined line xs rest plain)
