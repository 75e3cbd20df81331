-- One step after another: what a step takes is spelled so, and what is spelled so is taken.
use Rattle.std.proofs.Common.{◌≡◌, ◌≤◌, ℕ, Bool, true, false, ◌&&◌, List, [], ◌∷◌, Option, Some, None, Ok, Err, cond, slice_get, nat_le, refl, sym, ap, ◌∙◌, subst, le-leb, leb-true}
use Rattle.std.proofs.lemmas.Bool.{and_parts, and_from}
use Rattle.ant_base.specs.Number.{decimal_value, within}
use Rattle.word_table.specs.Words.{IsSameWord, word_place}
use Rattle.line_tokens.specs.declared.refusal.LineFault.{LineFault}
use Rattle.line_tokens.specs.declared.refusal.LineFault.TheVariants.{UnknownWord, BadNumber, ExtraToken}
use Rattle.line_tokens.specs.Steps.{Read, Step, ◌>>=◌, missing, refused, or_refused, take_word, take_number, take_end}
use Rattle.line_tokens.specs.Fields.{LineField, Spells, SpellsAll}
use Rattle.line_tokens.proofs.PlacesLemmas.{Names, word-found, word-again}

-- one step after another
pub bind_step : {A B : Type 0} (m : Read A) (f : A → Read B) (x : A) (y : Read B) → m ≡ Ok x → f x ≡ y → (m >>= f) ≡ y
bind_step m f x y e k = ap (λ r. r >>= f) e ∙ k

-- the front token is taken, and this holds of it
pub record IsTaken {A : Type 0} (spells : A → List ℕ → Type 0) (tokens : List (List ℕ)) (x : A) (rest : List (List ℕ)) : Type 0 where
  pub token : List ℕ
  pub front : tokens ≡ token ∷ rest
  pub spelled : spells x token

-- what a step takes is one token, of which this holds
pub record Takes {A : Type 0} (take : List (List ℕ) → Step A) (spells : A → List ℕ → Type 0) : Type 0 where
  pub taken : (tokens : List (List ℕ)) (x : A) (rest : List (List ℕ)) → take tokens ≡ Ok (x, rest) → IsTaken spells tokens x rest
  pub again : (x : A) (token : List ℕ) (rest : List (List ℕ)) → spells x token → take (token ∷ rest) ≡ Ok (x, rest)

-- a step that is taken, and what comes after it
pub then_taken : {A B : Type 0} {take : List (List ℕ) → Step A} {spells : A → List ℕ → Type 0} → Takes take spells → (tokens : List (List ℕ)) (f : A × List (List ℕ) → Read B) (y : B) (P : List (List ℕ) → Type 0) → (take tokens >>= f) ≡ Ok y → ((x : A) (token : List ℕ) (rest : List (List ℕ)) → spells x token → f (x, rest) ≡ Ok y → P (token ∷ rest)) → P tokens
then_taken {A} {B} {take} {spells} takes tokens f y P e k = go (take tokens) refl e
  where
    go : (r : Step A) → take tokens ≡ r → (r >>= f) ≡ Ok y → P tokens
    go (Ok p) is next = let t = takes.taken tokens p.0 p.1 is in subst P (sym t.front) (k p.0 t.token p.1 t.spelled next)
    go (Err refusal) is next = (let never : ◌≡◌ {A = Read B} (Err refusal) (Ok y) = next in absurd (cc))

-- a step that is taken again, and what comes after it
pub then_again : {A B : Type 0} {take : List (List ℕ) → Step A} {spells : A → List ℕ → Type 0} → Takes take spells → (x : A) (token : List ℕ) (rest : List (List ℕ)) (f : A × List (List ℕ) → Read B) (y : Read B) → spells x token → f (x, rest) ≡ y → (take (token ∷ rest) >>= f) ≡ y
then_again {take = take} takes x token rest f y h k = bind_step (take (token ∷ rest)) f (x, rest) y (takes.again x token rest h) k

ok_same : {A : Type 0} (p q : A × List (List ℕ)) → ◌≡◌ {A = Step A} (Ok p) (Ok q) → p ≡ q
ok_same p q e = cc

-- a token that is taken where it stands for something
taken_some : {A : Type 0} (o : Option A) (token : List ℕ) (rest : List (List ℕ)) (fault : LineFault) (x : A) (left : List (List ℕ)) → or_refused o rest token fault ≡ Ok (x, left) → (o ≡ Some x) × (rest ≡ left)
taken_some {A} None token rest fault x left e = (let never : ◌≡◌ {A = Step A} (Err (refused token fault)) (Ok (x, left)) = e in absurd (cc))
taken_some (Some z) token rest fault x left e = let same = ok_same (z, rest) (x, left) e in (ap (λ p. Some p.0) same, ap (λ p. p.1) same)

word_takes : {words : List (List ℕ)} {n : ℕ} {word : ℕ → List ℕ} → Names words n word → (tokens : List (List ℕ)) (i : ℕ) (rest : List (List ℕ)) → take_word words tokens ≡ Ok (i, rest) → IsTaken (λ j. IsSameWord (word j)) tokens i rest
word_takes names [] i rest e = (let never : ◌≡◌ {A = Step ℕ} (Err missing) (Ok (i, rest)) = e in absurd (cc))
word_takes {words} names (token ∷ tokens) i rest e =
    let found = taken_some (word_place words token) token tokens UnknownWord i rest e in
    record { token = token; front = ap (λ r. token ∷ r) found.1; spelled = word-found names token i found.0 }

-- a number within its bounds
pub record IsWithin (least most n : ℕ) (token : List ℕ) : Type 0 where
  pub value : decimal_value token ≡ Some n
  pub low : least ≤ n
  pub high : n ≤ most

pub within-some : (least most n : ℕ) (token : List ℕ) (o : Option ℕ) → decimal_value token ≡ o → within least most o ≡ Some n → IsWithin least most n token
within-some least most n token None e k = (let never : None ≡ Some n = k in absurd (cc))
within-some least most n token (Some m) e k = go (nat_le least m && nat_le m most) refl k
  where
    go : (b : Bool) → (nat_le least m && nat_le m most) ≡ b → cond b (Some m) None ≡ Some n → IsWithin least most n token
    go true t q = let parts = and_parts (nat_le least m) (nat_le m most) t in let same : m ≡ n = (let s : Some m ≡ Some n = q in cc) in
        subst (λ v. IsWithin least most v token) same (record { value = e; low = leb-true least m parts.0; high = leb-true m most parts.1 })
    go false t q = (let never : None ≡ Some n = q in absurd (cc))

pub within-again : (least most n : ℕ) (token : List ℕ) → IsWithin least most n token → within least most (decimal_value token) ≡ Some n
within-again least most n token w =
    ap (within least most) w.value ∙ ap (λ b. cond b (Some n) None) (and_from (nat_le least n) (nat_le n most) (le-leb least n w.low) (le-leb n most w.high))

pub number_takes : (least most : ℕ) → Takes (take_number least most) (IsWithin least most)
number_takes least most = record {
  taken = taken;
  again = λ n token rest w. ap (λ o. or_refused o rest token BadNumber) (within-again least most n token w);
}
  where
    taken : (tokens : List (List ℕ)) (n : ℕ) (rest : List (List ℕ)) → take_number least most tokens ≡ Ok (n, rest) → IsTaken (IsWithin least most) tokens n rest
    taken [] n rest e = (let never : ◌≡◌ {A = Step ℕ} (Err missing) (Ok (n, rest)) = e in absurd (cc))
    taken (token ∷ tokens) n rest e =
        let found = taken_some (within least most (decimal_value token)) token tokens BadNumber n rest e in
        record { token = token; front = ap (λ r. token ∷ r) found.1; spelled = within-some least most n token (decimal_value token) refl found.0 }

-- what the word that was taken stands for
abbrev pub as_named : {A : Type 0} → (ℕ → A) → ℕ × List (List ℕ) → Step A
as_named at word = Ok (at word.0, word.1)

-- the step of a word, and what it stands for
pub named_takes : {A : Type 0} (words : List (List ℕ)) (at : ℕ → A) (word : A → List ℕ) (n : ℕ) → Names words n (λ i. word (at i)) → (place : A → ℕ) → ((x : A) → slice_get words (place x) ≡ Some (word x)) → ((x : A) → at (place x) ≡ x) → Takes (λ tokens. take_word words tokens >>= as_named at) (λ x. IsSameWord (word x))
named_takes {A} words at word n names place stands back = record { taken = taken; again = again }
  where
    taken : (tokens : List (List ℕ)) (x : A) (rest : List (List ℕ)) → (take_word words tokens >>= as_named at) ≡ Ok (x, rest) → IsTaken (λ y. IsSameWord (word y)) tokens x rest
    taken tokens x rest e = go (take_word words tokens) refl e
      where
        go : (r : Step ℕ) → take_word words tokens ≡ r → (r >>= as_named at) ≡ Ok (x, rest) → IsTaken (λ y. IsSameWord (word y)) tokens x rest
        go (Ok p) is q =
            let same = ok_same (at p.0, p.1) (x, rest) q in
            let t = word_takes names tokens p.0 p.1 is in
            subst (λ (v : A × List (List ℕ)). IsTaken (λ y. IsSameWord (word y)) tokens v.0 v.1) same (record { token = t.token; front = t.front; spelled = t.spelled })
        go (Err refusal) is q = (let never : ◌≡◌ {A = Step A} (Err refusal) (Ok (x, rest)) = q in absurd (cc))

    again : (x : A) (token : List ℕ) (rest : List (List ℕ)) → IsSameWord (word x) token → (take_word words (token ∷ rest) >>= as_named at) ≡ Ok (x, rest)
    again x token rest h =
        ap (λ o. or_refused o rest token UnknownWord >>= as_named at) (word-again names (place x) (word x) token (stands x) h)
        ∙ ap (λ v. Ok (v, rest)) (back x)

-- the word that was taken, and what comes after it
pub then_word : {words : List (List ℕ)} {n : ℕ} {word : ℕ → List ℕ} {B : Type 0} → Names words n word → (tokens : List (List ℕ)) (f : ℕ × List (List ℕ) → Read B) (y : B) (P : List (List ℕ) → Type 0) → (take_word words tokens >>= f) ≡ Ok y → ((i : ℕ) (token : List ℕ) (rest : List (List ℕ)) → IsSameWord (word i) token → f (i, rest) ≡ Ok y → P (token ∷ rest)) → P tokens
then_word {words} {n} {word} {B} names tokens f y P e k = go (take_word words tokens) refl e
  where
    go : (r : Step ℕ) → take_word words tokens ≡ r → (r >>= f) ≡ Ok y → P tokens
    go (Ok p) is next = let t = word_takes names tokens p.0 p.1 is in subst P (sym t.front) (k p.0 t.token p.1 t.spelled next)
    go (Err refusal) is next = (let never : ◌≡◌ {A = Read B} (Err refusal) (Ok y) = next in absurd (cc))

-- a word that is taken again
pub word_step : {words : List (List ℕ)} {n : ℕ} {word : ℕ → List ℕ} → Names words n word → (i : ℕ) (w token : List ℕ) (rest : List (List ℕ)) → slice_get words i ≡ Some w → IsSameWord w token → take_word words (token ∷ rest) ≡ Ok (i, rest)
word_step names i w token rest stands same = ap (λ o. or_refused o rest token UnknownWord) (word-again names i w token stands same)

-- the end of the line
pub then_end : {B : Type 0} (tokens : List (List ℕ)) (x y : B) (P : List (List ℕ) → Type 0) → (take_end tokens >>= (λ end. Ok x)) ≡ Ok y → (x ≡ y → P []) → P tokens
then_end {B} [] x y P e k = k (ok_value x y e)
  where
    ok_value : (a b : B) → ◌≡◌ {A = Read B} (Ok a) (Ok b) → a ≡ b
    ok_value a b h = cc
then_end {B} (token ∷ tokens) x y P e k = (let never : ◌≡◌ {A = Read B} (Err (refused token ExtraToken)) (Ok y) = e in absurd (cc))

pub bind_assoc : {A B C : Type 0} (m : Read A) (f : A → Read B) (g : B → Read C) → ((m >>= f) >>= g) ≡ (m >>= (λ x. f x >>= g))
bind_assoc (Ok x) f g = refl
bind_assoc (Err refusal) f g = refl

-- the first of several fields, and the last
pub given : (field : LineField) (fields : List LineField) (tokens : List (List ℕ)) (P : List (List ℕ) → Type 0) → SpellsAll (field ∷ fields) tokens → ((token : List ℕ) (rest : List (List ℕ)) → Spells field token → SpellsAll fields rest → P (token ∷ rest)) → P tokens
given field fields [] P h k = absurd h
given field fields (token ∷ rest) P h k = k token rest h.0 h.1

pub given_end : (tokens : List (List ℕ)) (P : List (List ℕ) → Type 0) → SpellsAll [] tokens → P [] → P tokens
given_end [] P h k = k
given_end (token ∷ tokens) P h k = absurd h
