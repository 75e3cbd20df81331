-- A line that is printed of fields is cut into their tokens again.
use Rattle.std.proofs.Common.{◌≡◌, ◌<◌, ◌≤◌, ℕ, Bool, true, not, ◌&&◌, List, [], ◌∷◌, ◌++◌, length, map, filter, decimal, cond, nat_le, refl, sym, ap, ◌∙◌, arith, append_assoc, leb-true, ne_eqb}
use Rattle.std.specs.List.{AllByRecursion, list_all, onto_first}
use Rattle.std.specs.Char.{is_ascii_digit}
use Rattle.std.specs.Str.{all_ascii_digits}
use Rattle.std.proofs.lemmas.Bool.{and_parts, and_from}
use Rattle.std.proofs.lemmas.Fmt.{digits_decimal, decimal_nonempty}
use Rattle.ant_base.specs.Lines.{is_lf, has_no_lf}
use Rattle.ant_base.proofs.Digits.{decimal_value-decimal, all_ascii_digits-IsNumeralModel}
use Rattle.ant_base.proofs.Linewise.{has_no_lf-append}
use Rattle.line_tokens.specs.Tokens.{has_any, tokens_of}
use Rattle.line_tokens.specs.Inner.Scan.{is_token_byte}
use Rattle.line_tokens.specs.Fields.{LineField, SpellsAll, field_text, further_text, line_text}
use Rattle.line_tokens.specs.Fields.LineField.{Word, Number}
use Rattle.line_tokens.proofs.TokensLemmas.{plain, pieces, pieces-cons}

-- whether a byte belongs to a token of a text's line
abbrev is_plain_byte : ℕ → Bool
is_plain_byte byte = is_token_byte byte && not (is_lf byte)

-- a text that is one token
pub record IsToken (text : List ℕ) : Type 0 where
  pub bytes : list_all is_plain_byte text ≡ true
  pub some : has_any text ≡ true

-- a field whose text is one token that spells it
abbrev pub IsPrinted : LineField → Type 0
IsPrinted (Word word) = IsToken word
IsPrinted (Number n) = n < 10000000000

token_byte : (byte : ℕ) → is_ascii_digit byte ≡ true → is_plain_byte byte ≡ true
token_byte byte digit =
    let range = and_parts (nat_le 48 byte) (nat_le byte 57) digit in
    let low : 48 ≤ byte = leb-true 48 byte range.0 in
    let high : byte ≤ 57 = leb-true byte 57 range.1 in
    rw (ne_eqb byte 32 (omega arith), ne_eqb byte 9 (omega arith), ne_eqb byte 13 (omega arith), ne_eqb byte 59 (omega arith), ne_eqb byte 10 (omega arith)) refl

digits_token : (text : List ℕ) → all_ascii_digits text ≡ true → list_all is_plain_byte text ≡ true
digits_token [] all = refl
digits_token (byte ∷ text) all =
    let parts = and_parts (is_ascii_digit byte) (all_ascii_digits text) all in
    and_from (is_plain_byte byte) (list_all is_plain_byte text) (token_byte byte parts.0) (digits_token text parts.1)

nonempty : (text : List ℕ) → 0 < length text → has_any text ≡ true
nonempty [] some = absurd (omega arith)
nonempty (byte ∷ text) some = refl

pub number_token : (n : ℕ) → n < 10000000000 → IsToken (decimal n)
number_token n small = record {
  bytes = digits_token (decimal n) (digits_decimal all_ascii_digits-IsNumeralModel n (omega arith));
  some = nonempty (decimal n) (decimal_nonempty n (omega arith));
}

pub field_token : (field : LineField) → IsPrinted field → IsToken (field_text field)
field_token (Word word) token = token
field_token (Number n) small = number_token n small

-- further tokens without the LF
abbrev pub further_body : List LineField → List ℕ
further_body [] = []
further_body (field ∷ fields) = 32 ∷ (field_text field ++ further_body fields)

-- the tokens of a line without the LF
abbrev pub body : List LineField → List ℕ
body [] = []
body (field ∷ fields) = field_text field ++ further_body fields

pub further_text-body : (fields : List LineField) → further_text fields ≡ further_body fields ++ 10 ∷ []
further_text-body [] = refl
further_text-body (field ∷ fields) = ap (λ t. 32 ∷ (field_text field ++ t)) (further_text-body fields) ∙ ap (λ t. 32 ∷ t) (sym (append_assoc (field_text field) (further_body fields) (10 ∷ [])))

pub line_text-body : (fields : List LineField) → line_text fields ≡ body fields ++ 10 ∷ []
line_text-body [] = refl
line_text-body (field ∷ fields) = ap (λ t. field_text field ++ t) (further_text-body fields) ∙ sym (append_assoc (field_text field) (further_body fields) (10 ∷ []))

-- bytes in front of the first piece
abbrev onto_front : List ℕ → List (List ℕ) → List (List ℕ)
onto_front [] parts = parts
onto_front (byte ∷ bytes) parts = onto_first byte (onto_front bytes parts)

onto_front-empty : (bytes : List ℕ) (parts : List (List ℕ)) → onto_front bytes ([] ∷ parts) ≡ bytes ∷ parts
onto_front-empty [] parts = refl
onto_front-empty (byte ∷ bytes) parts = ap (onto_first byte) (onto_front-empty bytes parts)

pieces-front : (bytes line : List ℕ) → list_all is_plain_byte bytes ≡ true → pieces (bytes ++ line) ≡ onto_front bytes (pieces line)
pieces-front [] line all = refl
pieces-front (byte ∷ bytes) line all =
    let parts = and_parts (is_plain_byte byte) (list_all is_plain_byte bytes) all in
    pieces-cons byte (bytes ++ line) (plain byte (and_parts (is_token_byte byte) (not (is_lf byte)) parts.0).0) ∙ ap (onto_first byte) (pieces-front bytes line parts.1)

pieces-further : (fields : List LineField) → AllByRecursion IsPrinted fields → pieces (further_body fields) ≡ [] ∷ map field_text fields
pieces-further [] all = refl
pieces-further (field ∷ fields) all =
    ap (λ ps. [] ∷ ps) (pieces-front (field_text field) (further_body fields) (field_token field all.0).bytes ∙ ap (onto_front (field_text field)) (pieces-further fields all.1) ∙ onto_front-empty (field_text field) (map field_text fields))

pieces-body : (field : LineField) (fields : List LineField) → AllByRecursion IsPrinted (field ∷ fields) → pieces (body (field ∷ fields)) ≡ map field_text (field ∷ fields)
pieces-body field fields all =
    pieces-front (field_text field) (further_body fields) (field_token field all.0).bytes ∙ ap (onto_front (field_text field)) (pieces-further fields all.1) ∙ onto_front-empty (field_text field) (map field_text fields)

keep_all : (fields : List LineField) → AllByRecursion IsPrinted fields → filter has_any (map field_text fields) ≡ map field_text fields
keep_all [] all = refl
keep_all (field ∷ fields) all =
    ap (λ b. cond b (field_text field ∷ filter has_any (map field_text fields)) (filter has_any (map field_text fields))) (field_token field all.0).some
    ∙ ap (λ ts. field_text field ∷ ts) (keep_all fields all.1)

-- the tokens of a line that was printed
pub tokens_of-body : (field : LineField) (fields : List LineField) → AllByRecursion IsPrinted (field ∷ fields) → tokens_of (body (field ∷ fields)) ≡ map field_text (field ∷ fields)
tokens_of-body field fields all = ap (filter has_any) (pieces-body field fields all) ∙ keep_all (field ∷ fields) all

no_lf : (bytes : List ℕ) → list_all is_plain_byte bytes ≡ true → has_no_lf bytes ≡ true
no_lf [] all = refl
no_lf (byte ∷ bytes) all =
    let parts = and_parts (is_plain_byte byte) (list_all is_plain_byte bytes) all in
    and_from (not (is_lf byte)) (has_no_lf bytes) (and_parts (is_token_byte byte) (not (is_lf byte)) parts.0).1 (no_lf bytes parts.1)

no_lf-further : (fields : List LineField) → AllByRecursion IsPrinted fields → has_no_lf (further_body fields) ≡ true
no_lf-further [] all = refl
no_lf-further (field ∷ fields) all = has_no_lf-append (field_text field) (further_body fields) (no_lf (field_text field) (field_token field all.0).bytes) (no_lf-further fields all.1)

pub no_lf-body : (fields : List LineField) → AllByRecursion IsPrinted fields → has_no_lf (body fields) ≡ true
no_lf-body [] all = refl
no_lf-body (field ∷ fields) all = has_no_lf-append (field_text field) (further_body fields) (no_lf (field_text field) (field_token field all.0).bytes) (no_lf-further fields all.1)

-- the texts of fields spell them
pub spelled_again : (fields : List LineField) → AllByRecursion IsPrinted fields → SpellsAll fields (map field_text fields)
spelled_again [] all = tt
spelled_again (Word word ∷ fields) all = (refl, spelled_again fields all.1)
spelled_again (Number n ∷ fields) all = (decimal_value-decimal n all.0, spelled_again fields all.1)

-- the words are tokens
pub token : (word : List ℕ) → list_all is_plain_byte word ≡ true → has_any word ≡ true → IsToken word
token word bytes some = record { bytes = bytes; some = some }
