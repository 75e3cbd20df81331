-- The bytes of lines.
use Rattle.std.proofs.Common.{◌≡◌, ℕ, suc, ◌-◌, ◌<◌, Bool, true, false, cond, eqb, List, [], ◌∷◌, ◌++◌, length, get_or, refl, sym, ◌∙◌, ap, subst, append_assoc, append-nil, arith, nat_lt}
use Rattle.std.specs.List.{AllByRecursion, onto_first}
use Rattle.std.proofs.lemmas.Bool.{and_from, and_parts, eqb-true, lt-ltb}
use Rattle.ant_base.specs.Lines.{ends_in_lf, has_no_lf, is_lf, lines_of}
use Rattle.ant_base.proofs.Linewise.{lines_of-first, lines_of-line}
use Rattle.match_save.specs.Draft.{Draft}
use Rattle.match_save.specs.Text.{draft_text, spaced, text_of_lines}
use Rattle.match_save.specs.Inner.LineTexts.{further_text, tokens_text}
use Rattle.match_save.specs.Verdict.{IsDraftText}

-- lines without LF are the lines of their text
pub lines-text : (lines : List (List ℕ)) → AllByRecursion (λ line. has_no_lf line ≡ true) lines → lines_of (text_of_lines lines) ≡ lines
lines-text [] plain = refl
lines-text (line ∷ lines) plain =
    ap lines_of (append_assoc line (10 ∷ []) (text_of_lines lines)) ∙ lines_of-line line (text_of_lines lines) plain.0 ∙ ap (λ l. line ∷ l) (lines-text lines plain.1)

text-onto : (byte : ℕ) (lines : List (List ℕ)) → 0 < length lines → text_of_lines (onto_first byte lines) ≡ byte ∷ text_of_lines lines
text-onto byte [] some = absurd (let wrong : ⊥ = omega (arith, some) in wrong)
text-onto byte (line ∷ lines) some = refl

-- the last byte of a longer text
ends-more : (byte next : ℕ) (text : List ℕ) → ends_in_lf (byte ∷ next ∷ text) ≡ true → ends_in_lf (next ∷ text) ≡ true
ends-more byte next text e =
    let parts = and_parts (nat_lt 0 (length (byte ∷ next ∷ text))) (eqb (get_or (byte ∷ next ∷ text) (length (byte ∷ next ∷ text) - 1) 0) 10) e in
    let index : length (byte ∷ next ∷ text) - 1 ≡ suc (length (next ∷ text) - 1) = omega arith in
    and_from (nat_lt 0 (length (next ∷ text))) (eqb (get_or (next ∷ text) (length (next ∷ text) - 1) 0) 10) (lt-ltb 0 (length (next ∷ text)) (omega arith))
    (ap (λ (k : ℕ). eqb (get_or (byte ∷ next ∷ text) k 0) 10) (sym index) ∙ parts.1)

-- a text that ends in LF is the text of its lines
pub text-lines : (text : List ℕ) → ends_in_lf text ≡ true → text_of_lines (lines_of text) ≡ text
text-lines [] e = refl
text-lines (byte ∷ []) e =
    let parts = and_parts (nat_lt 0 (length (byte ∷ []))) (eqb (get_or (byte ∷ []) (length (byte ∷ []) - 1) 0) 10) e in
    let lf : byte ≡ 10 = eqb-true byte 10 (ap (λ (k : ℕ). eqb (get_or (byte ∷ []) k 0) 10) (let z : 0 ≡ length (byte ∷ []) - 1 = omega arith in z) ∙ parts.1) in
    subst (λ (b : ℕ). text_of_lines (lines_of (b ∷ [])) ≡ b ∷ []) (sym lf) refl
text-lines (byte ∷ next ∷ text) e = go (is_lf byte) refl (text-lines (next ∷ text) (ends-more byte next text e)) where
  go : (b : Bool) → is_lf byte ≡ b → text_of_lines (lines_of (next ∷ text)) ≡ next ∷ text → text_of_lines (cond b ([] ∷ lines_of (next ∷ text)) (onto_first byte (lines_of (next ∷ text)))) ≡ byte ∷ next ∷ text
  go true is rest = ap (λ l. 10 ∷ l) rest ∙ ap (λ (b : ℕ). b ∷ next ∷ text) (sym (eqb-true byte 10 is))
  go false is rest =
      text-onto byte (lines_of (next ∷ text)) (let l = ap length (lines_of-first (next ∷ text) (omega arith)) in omega (arith, l))
      ∙ ap (λ l. byte ∷ l) rest

-- a text with the lines of a save, each ended, is the text of these lines
pub draft-bytes : (text : List ℕ) (d : Draft) → IsDraftText text d → text ≡ draft_text d
unfolding draft_text
draft-bytes text d is = sym (text-lines text is.ended) ∙ ap text_of_lines is.lines

ends-cons : (byte : ℕ) (text : List ℕ) → ends_in_lf text ≡ true → ends_in_lf (byte ∷ text) ≡ true
ends-cons byte [] e = absurd (cc)
ends-cons byte (next ∷ text) e =
    let parts = and_parts (nat_lt 0 (length (next ∷ text))) (eqb (get_or (next ∷ text) (length (next ∷ text) - 1) 0) 10) e in
    let index : length (byte ∷ next ∷ text) - 1 ≡ suc (length (next ∷ text) - 1) = omega arith in
    and_from (nat_lt 0 (length (byte ∷ next ∷ text))) (eqb (get_or (byte ∷ next ∷ text) (length (byte ∷ next ∷ text) - 1) 0) 10) (lt-ltb 0 (length (byte ∷ next ∷ text)) (omega arith))
    (ap (λ (k : ℕ). eqb (get_or (byte ∷ next ∷ text) k 0) 10) index ∙ parts.1)

ends-behind : (a b : List ℕ) → ends_in_lf b ≡ true → ends_in_lf (a ++ b) ≡ true
ends-behind [] b e = e
ends-behind (byte ∷ a) b e = ends-cons byte (a ++ b) (ends-behind a b e)

-- the text of some lines ends in LF
pub ends-lines : (lines : List (List ℕ)) → 0 < length lines → ends_in_lf (text_of_lines lines) ≡ true
ends-lines [] some = absurd (let wrong : ⊥ = omega (arith, some) in wrong)
ends-lines (line ∷ []) some = ap ends_in_lf (append-nil (line ++ 10 ∷ [])) ∙ ends-behind line (10 ∷ []) refl
ends-lines (line ∷ next ∷ lines) some = ends-behind (line ++ 10 ∷ []) (text_of_lines (next ∷ lines)) (ends-lines (next ∷ lines) (omega arith))

further-spaced : (token : List ℕ) (tokens : List (List ℕ)) → spaced (token ∷ tokens) ++ 10 ∷ [] ≡ token ++ further_text tokens
further-spaced token [] = refl
further-spaced token (next ∷ tokens) = append_assoc token (32 ∷ spaced (next ∷ tokens)) (10 ∷ []) ∙ ap (λ l. token ++ (32 ∷ l)) (further-spaced next tokens)

-- a line that is pushed is the line and its LF
pub tokens_text-spaced : (tokens : List (List ℕ)) → tokens_text tokens ≡ spaced tokens ++ 10 ∷ []
tokens_text-spaced [] = refl
tokens_text-spaced (token ∷ tokens) = sym (further-spaced token tokens)
