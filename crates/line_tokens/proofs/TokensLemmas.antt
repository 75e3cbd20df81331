-- What a line has left, one token after another.
use Rattle.std.proofs.Common.{◌≡◌, ◌+◌, ℕ, suc, Bool, true, false, not, ◌||◌, eqb, List, [], ◌∷◌, take, drop, filter, length, cond, refl, sym, ap, ◌∙◌, subst, one-add, eqb-true, arith, ⊎_elim}
use Rattle.std.specs.List.{prefix_len, slice_split, onto_first}
use Rattle.std.proofs.lemmas.Bool.{or_cases, or_parts, not-true, not-false, false≢true}
use Rattle.ant_base.specs.Lines.{is_separator, after_separators}
use Rattle.line_tokens.specs.Tokens.{begins_comment, before_comment, has_any, tokens_of, has_token}
use Rattle.line_tokens.specs.Inner.Scan.{is_token_byte, begins_token}

-- a separator is one of three bytes
by_separator : (P : ℕ → Type 0) → P 32 → P 9 → P 13 → (byte : ℕ) → is_separator byte ≡ true → P byte
by_separator P space tab cr byte h =
    ⊎_elim
    (λ e. ⊎_elim (λ f. subst P (sym (eqb-true byte 32 f)) space) (λ f. subst P (sym (eqb-true byte 9 f)) tab) (or_cases (eqb byte 32) (eqb byte 9) e))
    (λ e. subst P (sym (eqb-true byte 13 e)) cr)
    (or_cases (eqb byte 32 || eqb byte 9) (eqb byte 13) h)

-- what is not a token byte is a separator or begins a comment
by_no_token_byte : (P : ℕ → Type 0) → ((byte : ℕ) → is_separator byte ≡ true → P byte) → P 59 → (byte : ℕ) → is_token_byte byte ≡ false → P byte
by_no_token_byte P separator comment byte h =
    ⊎_elim (separator byte) (λ f. subst P (sym (eqb-true byte 59 f)) comment) (or_cases (is_separator byte) (begins_comment byte) (not-false (is_separator byte || begins_comment byte) h))

-- what a token byte isn't
pub record IsPlain (byte : ℕ) : Type 0 where
  pub separator : is_separator byte ≡ false
  pub comment : begins_comment byte ≡ false

pub plain : (byte : ℕ) → is_token_byte byte ≡ true → IsPlain byte
plain byte h = let parts = or_parts (is_separator byte) (begins_comment byte) (not-true (is_separator byte || begins_comment byte) h) in record { separator = parts.0; comment = parts.1 }

-- the pieces of a line between its separators
abbrev pub pieces : List ℕ → List (List ℕ)
pieces line = slice_split is_separator (before_comment line)

-- the pieces of a line where a token byte is in front
pub pieces-cons : (byte : ℕ) (line : List ℕ) → IsPlain byte → pieces (byte ∷ line) ≡ onto_first byte (pieces line)
pieces-cons byte line p = rw (p.comment, p.separator) refl

-- Separators at the front change nothing.
tokens_of-separator : (line : List ℕ) (byte : ℕ) → is_separator byte ≡ true → tokens_of (byte ∷ line) ≡ tokens_of line
tokens_of-separator line = by_separator (λ byte. tokens_of (byte ∷ line) ≡ tokens_of line) refl refl refl

pub tokens_of-past : (line : List ℕ) → tokens_of (after_separators line) ≡ tokens_of line
tokens_of-past [] = refl
tokens_of-past (byte ∷ line) = go (is_separator byte) refl (tokens_of-past line)
  where
    go : (b : Bool) → is_separator byte ≡ b → tokens_of (after_separators line) ≡ tokens_of line → tokens_of (drop (cond b (1 + prefix_len is_separator line) 0) (byte ∷ line)) ≡ tokens_of (byte ∷ line)
    go true e rest = rw one-add (rest ∙ sym (tokens_of-separator line byte e))
    go false e rest = refl

-- whether a separator is at the front
abbrev begins_separator : List ℕ → Bool
begins_separator [] = false
begins_separator (byte ∷ line) = is_separator byte

begins_separator-past : (line : List ℕ) → begins_separator (after_separators line) ≡ false
begins_separator-past [] = refl
begins_separator-past (byte ∷ line) = go (is_separator byte) refl (begins_separator-past line)
  where
    go : (b : Bool) → is_separator byte ≡ b → begins_separator (after_separators line) ≡ false → begins_separator (drop (cond b (1 + prefix_len is_separator line) 0) (byte ∷ line)) ≡ false
    go true e rest = rw one-add rest
    go false e rest = e

-- If no token is in front, the first piece is empty.
pieces-ended : (line : List ℕ) → begins_token line ≡ false → (rest : List (List ℕ)) × (pieces line ≡ [] ∷ rest)
pieces-ended [] none = ([], refl)
pieces-ended (byte ∷ line) none =
    by_no_token_byte (λ b. (rest : List (List ℕ)) × (pieces (b ∷ line) ≡ [] ∷ rest))
    (by_separator (λ b. (rest : List (List ℕ)) × (pieces (b ∷ line) ≡ [] ∷ rest)) (pieces line, refl) (pieces line, refl) (pieces line, refl))
    ([], refl) byte none

-- If neither a token nor a separator is in front, there is no token.
tokens_of-ended : (line : List ℕ) → begins_token line ≡ false → begins_separator line ≡ false → tokens_of line ≡ []
tokens_of-ended [] none bare = refl
tokens_of-ended (byte ∷ line) none bare =
    by_no_token_byte (λ b. is_separator b ≡ false → tokens_of (b ∷ line) ≡ []) (λ b yes_it_is not_so. absurd (false≢true (sym not_so ∙ yes_it_is))) (λ _. refl) byte none bare

-- the line in front of which a token is cut off
pub record IsCut (line token rest : List ℕ) : Type 0 where
  pub others : List (List ℕ)
  pub whole : pieces line ≡ token ∷ others
  pub left : pieces rest ≡ [] ∷ others

cut : (line : List ℕ) → IsCut line (take (prefix_len is_token_byte line) line) (drop (prefix_len is_token_byte line) line)
cut [] = record { others = []; whole = refl; left = refl }
cut (byte ∷ line) = go (is_token_byte byte) refl (cut line)
  where
    more : is_token_byte byte ≡ true → IsCut line (take (prefix_len is_token_byte line) line) (drop (prefix_len is_token_byte line) line) → IsCut (byte ∷ line) (byte ∷ take (prefix_len is_token_byte line) line) (drop (prefix_len is_token_byte line) line)
    more e c = record { others = c.others; whole = pieces-cons byte line (plain byte e) ∙ ap (onto_first byte) c.whole; left = c.left }

    go : (b : Bool) → is_token_byte byte ≡ b → IsCut line (take (prefix_len is_token_byte line) line) (drop (prefix_len is_token_byte line) line) → IsCut (byte ∷ line) (take (cond b (1 + prefix_len is_token_byte line) 0) (byte ∷ line)) (drop (cond b (1 + prefix_len is_token_byte line) 0) (byte ∷ line))
    go true e c = rw one-add (more e c)
    go false e c = let ended = pieces-ended (byte ∷ line) e in record { others = ended.0; whole = ended.1; left = ended.1 }

-- a token that is cut off is the first one
tokens_of-cut : (line token rest : List ℕ) → IsCut line token rest → has_any token ≡ true → tokens_of line ≡ token ∷ tokens_of rest
tokens_of-cut line token rest c some =
    ap (filter has_any) c.whole ∙ ap (λ b. cond b (token ∷ filter has_any c.others) (filter has_any c.others)) some ∙ ap (λ ts. token ∷ ts) (sym (ap (filter has_any) c.left))

-- a token is cut off where one is in front
has_any-token : (line : List ℕ) → has_any (take (prefix_len is_token_byte line) line) ≡ begins_token line
has_any-token [] = refl
has_any-token (byte ∷ line) = go (is_token_byte byte)
  where
    go : (b : Bool) → has_any (take (cond b (1 + prefix_len is_token_byte line) 0) (byte ∷ line)) ≡ b
    go true = rw one-add refl
    go false = refl

-- whether a line has a token, after the separators in front
has_token-past : (line : List ℕ) → begins_separator line ≡ false → begins_token line ≡ has_token (tokens_of line)
has_token-past line none = go (begins_token line) refl
  where
    go : (b : Bool) → begins_token line ≡ b → begins_token line ≡ has_token (tokens_of line)
    go true e = e ∙ sym (ap has_token (tokens_of-cut line (take (prefix_len is_token_byte line) line) (drop (prefix_len is_token_byte line) line) (cut line) (has_any-token line ∙ e)))
    go false e = e ∙ sym (ap has_token (tokens_of-ended line e none))

-- what the next token and the rest are to a line
pub record IsNext (line token rest : List ℕ) : Type 0 where
  pub found : eqb (length token) 0 ≡ false → tokens_of line ≡ token ∷ tokens_of rest
  pub ended : eqb (length token) 0 ≡ true → tokens_of line ≡ []
  pub left : eqb (length token) 0 ≡ true → tokens_of rest ≡ []

has_any-length : (token : List ℕ) (b : Bool) → eqb (length token) 0 ≡ not b → has_any token ≡ b
has_any-length [] true e = sym e
has_any-length (byte ∷ token) false e = let z : suc (length token) ≡ 0 = eqb-true (suc (length token)) 0 e in absurd (omega arith)
has_any-length it that e = refl

-- a token of no byte is not a cut
cut_nothing : (line token rest : List ℕ) → IsCut line token rest → has_any token ≡ false → tokens_of rest ≡ tokens_of line
cut_nothing line token rest c none =
    ap (filter has_any) c.left ∙ sym (ap (filter has_any) c.whole ∙ ap (λ b. cond b (token ∷ filter has_any c.others) (filter has_any c.others)) none)

-- the token after the separators in front
pub next_of : (line start token rest : List ℕ) (n : ℕ) → start ≡ after_separators line → n ≡ prefix_len is_token_byte start → token ≡ take n start → rest ≡ drop n start → IsNext line token rest
next_of line start token rest n start_is n_is token_is rest_is =
    record {
      found = λ some. here ∙ tokens_of-cut start token rest c (has_any-length token true some);
      ended = λ none. here ∙ tokens_of-ended start (bare none) no_separator;
      left = λ none. cut_nothing start token rest c (has_any-length token false none) ∙ tokens_of-ended start (bare none) no_separator;
    }
  where
    here : tokens_of line ≡ tokens_of start
    here = sym (ap tokens_of start_is ∙ tokens_of-past line)

    no_separator : begins_separator start ≡ false
    no_separator = ap begins_separator start_is ∙ begins_separator-past line

    token_of_start : token ≡ take (prefix_len is_token_byte start) start
    token_of_start = token_is ∙ ap (λ k. take k start) n_is

    c : IsCut start token rest
    c = subst (λ t. IsCut start t rest) (sym token_of_start) (subst (λ r. IsCut start (take (prefix_len is_token_byte start) start) r) (sym (rest_is ∙ ap (λ k. drop k start) n_is)) (cut start))

    bare : eqb (length token) 0 ≡ true → begins_token start ≡ false
    bare none = sym (has_any-token start) ∙ ap has_any (sym token_of_start) ∙ has_any-length token false none

-- whether there is a next token
pub has_next_of : (line : List ℕ) → begins_token (after_separators line) ≡ has_token (tokens_of line)
has_next_of line = has_token-past (after_separators line) (begins_separator-past line) ∙ ap has_token (tokens_of-past line)
