-- Words and their places, numbers, and the bytes of both.
use Rattle.std.proofs.Common.{◌≡◌, ◌+◌, ◌<◌, ◌≤◌, ℕ, zero, suc, Bool, true, false, not, ◌&&◌, ◌||◌, List, [], ◌∷◌, length, get_or, Option, Some, None, map, option_map, cond, slice_get, bytes_eq, nat_le, nat_lt, eqb, refl, sym, ap, ◌∙◌, IsTrue, arith, le-leb, leb-true, ltb-false, ltb-true}
use Rattle.std.specs.List.{list_all}
use Rattle.std.specs.Char.{to_ascii_lowercase, is_ascii_digit}
use Rattle.std.specs.Str.{all_ascii_digits, str_to_ascii_lowercase, str_eq_ignore_ascii_case}
use Rattle.std.specs.Str.Parse.{digits_value}
use Rattle.std.proofs.lemmas.Bool.{and_parts, and_from, agree_below, agree_below_at, or_right, cond_both, not-true}
use Rattle.std.proofs.lemmas.Option.{slice_get_within, get_or_from_slice_get}
use Rattle.std.proofs.lemmas.Slice.Eq.{bytes_eq-Decides}
use Rattle.std.proofs.lemmas.Str.Parse.{digits_value_short}
use Rattle.ant_base.proofs.Digits.{all_ascii_digits-IsNumeralModel}
use Rattle.ant_base.specs.Number.{decimal_value, within, number_within}
use Rattle.word_table.specs.Words.{IsSameWord, are_distinct, word_place}
use Rattle.word_table.proofs.Places.{word_place-found, word_place-only}
use Rattle.line_tokens.specs.Tokens.{is_bad_byte, has_bad_byte}
use Rattle.line_tokens.specs.Fields.{named}

-- bytes from 32 to 126 are good
pub good_byte : (byte : ℕ) → 32 ≤ byte → byte ≤ 126 → is_bad_byte byte ≡ false
good_byte byte low high =
    let good : (nat_le 32 byte && nat_le byte 126) ≡ true = and_from (nat_le 32 byte) (nat_le byte 126) (le-leb 32 byte low) (le-leb byte 126 high) in
    ap not (or_right (eqb byte 9 || eqb byte 10 || eqb byte 13) (nat_le 32 byte && nat_le byte 126) good)

-- a letter is as good in either case
is_bad_byte-lower : (byte : ℕ) → is_bad_byte (to_ascii_lowercase byte) ≡ is_bad_byte byte
is_bad_byte-lower byte =
    cond_both (nat_lt byte 65) byte (cond (nat_lt byte 91) (byte + 32) byte) (λ b. is_bad_byte b ≡ is_bad_byte byte)
    (λ _. refl)
    (λ from. cond_both (nat_lt byte 91) (byte + 32) byte (λ b. is_bad_byte b ≡ is_bad_byte byte)
    (λ below.
    let low : 65 ≤ byte = ltb-false byte 65 from in
    let high : byte < 91 = ltb-true byte 91 below in
    good_byte (byte + 32) (omega arith) (omega arith) ∙ sym (good_byte byte (omega arith) (omega arith)))
    (λ _. refl))

has_bad_byte-lower : (token : List ℕ) → has_bad_byte (str_to_ascii_lowercase token) ≡ has_bad_byte token
has_bad_byte-lower [] = refl
has_bad_byte-lower (byte ∷ token) = rw (is_bad_byte-lower byte, has_bad_byte-lower token) refl

-- a word is as good in any case
pub has_bad_byte-same : (word token : List ℕ) → IsSameWord word token → has_bad_byte word ≡ has_bad_byte token
has_bad_byte-same word token same = sym (has_bad_byte-lower word) ∙ ap has_bad_byte same ∙ has_bad_byte-lower token

-- what a table of words gives to its reader: its words are distinct, good, and named by their places
pub record Names (words : List (List ℕ)) (n : ℕ) (word : ℕ → List ℕ) : Type 0 where
  pub distinct : IsTrue (are_distinct words)
  pub good : list_all (λ w. not (has_bad_byte w)) words ≡ true
  pub count : length words ≡ n
  pub named : agree_below (λ i. bytes_eq (get_or words i []) (word i)) (λ _. true) n ≡ true

good_at : (words : List (List ℕ)) (i : ℕ) (word : List ℕ) → list_all (λ w. not (has_bad_byte w)) words ≡ true → slice_get words i ≡ Some word → has_bad_byte word ≡ false
good_at [] i word all at = (let e : None ≡ Some word = at in cc)
good_at (first ∷ words) zero word all at =
    let here : first ≡ word = (let e : Some first ≡ Some word = at in cc) in
    let parts = and_parts (not (has_bad_byte first)) (list_all (λ w. not (has_bad_byte w)) words) all in
    ap has_bad_byte (sym here) ∙ not-true (has_bad_byte first) parts.0
good_at (first ∷ words) (suc i) word all at =
    let parts = and_parts (not (has_bad_byte first)) (list_all (λ w. not (has_bad_byte w)) words) all in
    good_at words i word parts.1 at

-- a word that is found is the one that its place names
pub word-found : {words : List (List ℕ)} {n : ℕ} {word : ℕ → List ℕ} → Names words n word → (token : List ℕ) (i : ℕ) → word_place words token ≡ Some i → IsSameWord (word i) token
word-found {words} {n} {word} names token i found =
    let at = word_place-found words token i found in
    let within : i < n = (let inside = slice_get_within words i at.word at.stands in omega (arith, names.count)) in
    let equal : bytes_eq (get_or words i []) (word i) ≡ true = agree_below_at (λ k. bytes_eq (get_or words k []) (word k)) (λ _. true) n i names.named within in
    let is : get_or words i [] ≡ word i = (bytes_eq-Decides (get_or words i []) (word i)).0 equal in
    ap str_to_ascii_lowercase (sym is ∙ get_or_from_slice_get words i at.word [] at.stands) ∙ at.same

-- a word that is found has no bad byte
pub word-good : {words : List (List ℕ)} {n : ℕ} {word : ℕ → List ℕ} → Names words n word → (token : List ℕ) (i : ℕ) → word_place words token ≡ Some i → has_bad_byte token ≡ false
word-good {words} names token i found =
    let at = word_place-found words token i found in
    sym (has_bad_byte-same at.word token at.same) ∙ good_at words i at.word names.good at.stands

-- a token that is a word of the table is found
pub word-again : {words : List (List ℕ)} {n : ℕ} {word : ℕ → List ℕ} → Names words n word → (i : ℕ) (w token : List ℕ) → slice_get words i ≡ Some w → IsSameWord w token → word_place words token ≡ Some i
word-again {words} names i w token stands same = word_place-only words token i names.distinct (record { word = w; stands = stands; same = same })

-- these things stand at the places from 0 on
abbrev pub Stand : {A : Type 0} → (ℕ → A) → List A → Type 0
Stand at [] = Unit {0}
Stand at (thing ∷ things) = (at 0 ≡ thing) × Stand (λ i. at (suc i)) things

-- what a token names is what is at the place of its word
pub named-place : {A B : Type 0} (word : A → List ℕ) (at : ℕ → A) (f : A → B) (things : List A) (token : List ℕ) → Stand at things → option_map f (named word things token) ≡ option_map (λ i. f (at i)) (word_place (map word things) token)
named-place word at f [] token stand = refl
named-place {A} {B} word at f (thing ∷ things) token stand = go (str_eq_ignore_ascii_case (word thing) token) (named-place word (λ i. at (suc i)) f things token stand.1)
  where
    later : (o : Option ℕ) → option_map (λ i. f (at (suc i))) o ≡ option_map (λ i. f (at i)) (option_map suc o)
    later None = refl
    later (Some i) = refl

    go : (b : Bool) → option_map f (named word things token) ≡ option_map (λ i. f (at (suc i))) (word_place (map word things) token) → option_map f (cond b (Some thing) (named word things token)) ≡ option_map (λ i. f (at i)) (cond b (Some 0) (option_map suc (word_place (map word things) token)))
    go true rest = ap (λ x. Some (f x)) (sym stand.0)
    go false rest = rest ∙ later (word_place (map word things) token)

-- a number, as its digits
record IsDigits (token : List ℕ) (n : ℕ) : Type 0 where
  short : length token ≤ 10
  digits : all_ascii_digits token ≡ true
  value : digits_value 10 token ≡ n

digits_of : (token : List ℕ) (n : ℕ) → decimal_value token ≡ Some n → IsDigits token n
unfolding decimal_value
digits_of token n is = go (nat_le 1 (length token) && nat_le (length token) 10 && all_ascii_digits token) refl is
  where
    go : (b : Bool) → (nat_le 1 (length token) && nat_le (length token) 10 && all_ascii_digits token) ≡ b → cond b (Some (digits_value 10 token)) None ≡ Some n → IsDigits token n
    go true e k =
        let outer = and_parts (nat_le 1 (length token) && nat_le (length token) 10) (all_ascii_digits token) e in
        let inner = and_parts (nat_le 1 (length token)) (nat_le (length token) 10) outer.0 in
        record { short = leb-true (length token) 10 inner.1; digits = outer.1; value = (let same : Some (digits_value 10 token) ≡ Some n = k in cc) }
    go false e k = (let never : None ≡ Some n = k in cc)

-- a number of at most ten digits is below 10 ^ 10
pub decimal_value-small : (token : List ℕ) (n : ℕ) → decimal_value token ≡ Some n → n ≤ 9999999999
decimal_value-small token n is =
    let d = digits_of token n is in
    let small = digits_value_short all_ascii_digits-IsNumeralModel token 10 d.digits d.short in
    omega (arith, small, d.value)

digits-good : (token : List ℕ) → all_ascii_digits token ≡ true → has_bad_byte token ≡ false
digits-good [] all = refl
digits-good (byte ∷ token) all =
    let parts = and_parts (is_ascii_digit byte) (all_ascii_digits token) all in
    let range = and_parts (nat_le 48 byte) (nat_le byte 57) parts.0 in
    let low : 48 ≤ byte = leb-true 48 byte range.0 in
    let high : byte ≤ 57 = leb-true byte 57 range.1 in
    rw (good_byte byte (omega arith) (omega arith)) (digits-good token parts.1)

-- a number has no bad byte
pub decimal_value-good : (token : List ℕ) (n : ℕ) → decimal_value token ≡ Some n → has_bad_byte token ≡ false
decimal_value-good token n is = digits-good token (digits_of token n is).digits

-- every number lies between 0 and the largest of ten digits
pub number_within-any : (token : List ℕ) → number_within 0 9999999999 token ≡ decimal_value token
number_within-any token = go (decimal_value token) refl
  where
    go : (o : Option ℕ) → decimal_value token ≡ o → within 0 9999999999 o ≡ o
    go None e = refl
    go (Some n) e = ap (λ b. cond b (Some n) None) (and_from (nat_le 0 n) (nat_le n 9999999999) (le-leb 0 n (omega arith)) (le-leb n 9999999999 (decimal_value-small token n e)))
