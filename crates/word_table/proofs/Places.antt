-- The place of a word in a table, and the word at a place.
use Rattle.std.proofs.Common.{◌≡◌, ◌+◌, ◌<◌, ℕ, zero, suc, Bool, true, false, not, ◌||◌, List, [], ◌∷◌, length, drop, get_or, map, Option, Some, None, cond, option_map, refl, sym, ap, ◌∙◌, subst, IsTrue, arith}
use Rattle.std.specs.List.{list_any}
use Rattle.std.proofs.lemmas.Bool.{and_parts, not-true, false≢true, false_from_ne_true}
use Rattle.std.proofs.lemmas.List.{drop_more, get_or-map, length-map}
use Rattle.std.proofs.lemmas.Slice.Eq.{bytes_eq-Decides}
use Rattle.std.specs.Str.{str_to_ascii_lowercase, str_eq_ignore_ascii_case}
use Rattle.word_table.specs.Words.{IsSameWord, are_distinct, word_place, IsWordAt}

-- the test means that the texts are the same word
pub str_eq_ignore_ascii_case-true : (a b : List ℕ) → str_eq_ignore_ascii_case a b ≡ true → IsSameWord a b
str_eq_ignore_ascii_case-true a b = (bytes_eq-Decides (str_to_ascii_lowercase a) (str_to_ascii_lowercase b)).0

pub IsSameWord-tested : (a b : List ℕ) → IsSameWord a b → str_eq_ignore_ascii_case a b ≡ true
IsSameWord-tested a b = (bytes_eq-Decides (str_to_ascii_lowercase a) (str_to_ascii_lowercase b)).1

-- the word before it isn't the text, so the place counts from the next one
pub word_place-later : (word : List ℕ) (words : List (List ℕ)) (text : List ℕ) → str_eq_ignore_ascii_case word text ≡ false → word_place (word ∷ words) text ≡ option_map suc (word_place words text)
word_place-later word words text no_word = ap (λ b. cond b (Some 0) (option_map suc (word_place words text))) no_word

pub word_place-first : (word : List ℕ) (words : List (List ℕ)) (text : List ℕ) → str_eq_ignore_ascii_case word text ≡ true → word_place (word ∷ words) text ≡ Some 0
word_place-first word words text is_word = ap (λ b. cond b (Some 0) (option_map suc (word_place words text))) is_word

-- what was counted from the next word
counted : (o : Option ℕ) (i : ℕ) → option_map suc o ≡ Some i → (j : ℕ) × (o ≡ Some j) × (i ≡ suc j)
counted None i e = cc
counted (Some j) i e = (j, refl, cc)

one_further : (word : List ℕ) (words : List (List ℕ)) (j : ℕ) (text : List ℕ) → IsWordAt words j text → IsWordAt (word ∷ words) (suc j) text
one_further word words j text at = record { word = at.word; stands = at.stands; same = at.same }

-- the word at the place that is found is the text
pub word_place-found : (words : List (List ℕ)) (text : List ℕ) (i : ℕ) → word_place words text ≡ Some i → IsWordAt words i text
word_place-found [] text i e = cc
word_place-found (word ∷ words) text i e = go (str_eq_ignore_ascii_case word text) refl (word_place-found words text)
  where
    go : (b : Bool) → str_eq_ignore_ascii_case word text ≡ b → ((j : ℕ) → word_place words text ≡ Some j → IsWordAt words j text) → IsWordAt (word ∷ words) i text
    go true is_word rest =
        let at : 0 ≡ i = (let e' : Some 0 ≡ Some i = sym (word_place-first word words text is_word) ∙ e in cc) in
        subst (λ k. IsWordAt (word ∷ words) k text) at (record { word = word; stands = refl; same = str_eq_ignore_ascii_case-true word text is_word })
    go false no_word rest =
        let found = counted (word_place words text) i (sym (word_place-later word words text no_word) ∙ e) in
        subst (λ k. IsWordAt (word ∷ words) k text) (sym found.2) (one_further word words found.0 text (rest found.0 found.1))

-- a word that is in the list makes the test of the whole list true
any_at : (word : List ℕ) (words : List (List ℕ)) (i : ℕ) (text : List ℕ) → IsWordAt words i text → str_eq_ignore_ascii_case word text ≡ true → list_any (str_eq_ignore_ascii_case word) words ≡ true
any_at word [] i text at is_word = (let e : None ≡ Some at.word = at.stands in cc)
any_at word (first ∷ words) zero text at is_word =
    let here : first ≡ at.word = (let e : Some first ≡ Some at.word = at.stands in cc) in
    let same : IsSameWord word first = str_eq_ignore_ascii_case-true word text is_word ∙ sym at.same ∙ ap str_to_ascii_lowercase (sym here) in
    ap (λ b. b || list_any (str_eq_ignore_ascii_case word) words) (IsSameWord-tested word first same)
any_at word (first ∷ words) (suc i) text at is_word = go (str_eq_ignore_ascii_case word first) refl (any_at word words i text (record { word = at.word; stands = at.stands; same = at.same }) is_word)
  where
    go : (b : Bool) → str_eq_ignore_ascii_case word first ≡ b → list_any (str_eq_ignore_ascii_case word) words ≡ true → (str_eq_ignore_ascii_case word first || list_any (str_eq_ignore_ascii_case word) words) ≡ true
    go true e rest = ap (λ b. b || list_any (str_eq_ignore_ascii_case word) words) e
    go false e rest = ap (λ b. b || list_any (str_eq_ignore_ascii_case word) words) e ∙ rest

-- only one of several distinct words is the text
pub word_place-only : (words : List (List ℕ)) (text : List ℕ) (i : ℕ) → IsTrue (are_distinct words) → IsWordAt words i text → word_place words text ≡ Some i
word_place-only [] text i distinct at = (let e : None ≡ Some at.word = at.stands in cc)
word_place-only (word ∷ words) text zero distinct at =
    let here : word ≡ at.word = (let e : Some word ≡ Some at.word = at.stands in cc) in
    word_place-first word words text (IsSameWord-tested word text (ap str_to_ascii_lowercase here ∙ at.same))
word_place-only (word ∷ words) text (suc i) distinct at =
    let parts = and_parts (not (list_any (str_eq_ignore_ascii_case word) words)) (are_distinct words) distinct in
    let later : IsWordAt words i text = record { word = at.word; stands = at.stands; same = at.same } in
    let differs : str_eq_ignore_ascii_case word text ≡ false = false_from_ne_true (str_eq_ignore_ascii_case word text) (λ is_word. false≢true (sym (not-true (list_any (str_eq_ignore_ascii_case word) words) parts.0) ∙ any_at word words i text later is_word)) in
    word_place-later word words text differs ∙ ap (option_map suc) (word_place-only words text i parts.1 later)

-- what is left of the table from place i on
rest_at : {A : Type 0} (text_of : A → List ℕ) (xs : List A) (i : ℕ) (x : A) (text : List ℕ) → i < length xs → x ≡ get_or xs i x → option_map (λ j. i + j) (word_place (drop i (map text_of xs)) text) ≡ option_map (λ j. i + j) (word_place (text_of x ∷ drop (i + 1) (map text_of xs)) text)
rest_at text_of xs i x text within is =
    let inside : i < length (map text_of xs) = (rw length-map within) in
    let here : get_or (map text_of xs) i (text_of x) ≡ text_of x = get_or-map text_of xs i x (text_of x) within ∙ ap text_of (sym is) in
    ap (λ ws. option_map (λ j. i + j) (word_place ws text)) (drop_more (map text_of xs) i (text_of x) inside ∙ ap (λ w. w ∷ drop (i + 1) (map text_of xs)) here)

-- The search goes over the words in order, and this one isn't the text.
pub search-more : {A : Type 0} (text_of : A → List ℕ) (xs : List A) (i : ℕ) (x : A) (text : List ℕ) → i < length xs → x ≡ get_or xs i x → str_eq_ignore_ascii_case (text_of x) text ≡ false → option_map (λ j. i + j) (word_place (drop i (map text_of xs)) text) ≡ option_map (λ j. i + 1 + j) (word_place (drop (i + 1) (map text_of xs)) text)
search-more text_of xs i x text within is no_word =
    rest_at text_of xs i x text within is
    ∙ ap (option_map (λ j. i + j)) (word_place-later (text_of x) (drop (i + 1) (map text_of xs)) text no_word)
    ∙ shift (word_place (drop (i + 1) (map text_of xs)) text)
  where
    shift : (o : Option ℕ) → option_map (λ j. i + j) (option_map suc o) ≡ option_map (λ j. i + 1 + j) o
    shift None = refl
    shift (Some j) = ap Some (omega arith)

-- This one is the text.
pub search-here : {A : Type 0} (text_of : A → List ℕ) (xs : List A) (i : ℕ) (x : A) (text : List ℕ) → i < length xs → x ≡ get_or xs i x → str_eq_ignore_ascii_case (text_of x) text ≡ true → option_map (λ j. i + j) (word_place (drop i (map text_of xs)) text) ≡ Some i
search-here text_of xs i x text within is is_word =
    rest_at text_of xs i x text within is
    ∙ ap (option_map (λ j. i + j)) (word_place-first (text_of x) (drop (i + 1) (map text_of xs)) text is_word)
    ∙ ap Some (omega arith)
