-- An enum whose variants have no fields: a list with each of its tags has each of its values.
use denote.Enum.Bare.{Bare, sameb, same_true}
use denote.Enum.Declared.{Declared, rowss, tag_of}
use denote.Enum.Enum.{Sum, tag}
use denote.Struct.Field.{Field}
use lib.Dec.{eqb}
use Rattle.std.proofs.Common.{◌≡◌, ℕ, zero, suc, ◌<◌, Bool, true, ◌&&◌, List, [], ◌∷◌, length, ap, ◌∙◌, subst, inl, inr, arith}
use Rattle.std.specs.List.{Contains, list_all, list_any}
use Rattle.std.proofs.lemmas.Bool.{and_parts, cases_order, false≢true, or_cases}
use Rattle.list_lemmas.proofs.Elements.{Contains-first, Contains-later}
use Rattle.command_words.proofs.ListLemmas.{list_all-at}

-- a test that all numbers below another pass
abbrev pub all_below : (ℕ → Bool) → ℕ → Bool
all_below p zero = true
all_below p (suc n) = p n && all_below p n

all_below-at : (p : ℕ → Bool) (n i : ℕ) → all_below p n ≡ true → i < n → p i ≡ true
all_below-at p zero i e less = absurd (omega arith)
all_below-at p (suc n) i e less =
    let parts = and_parts (p n) (all_below p n) e in
    elim (cases_order i n) [
      | inl here ↦ ap p here ∙ parts.0
      | inr other ↦ elim other [ inl before ↦ all_below-at p n i parts.1 before | inr past ↦ absurd (omega arith) ]
    ]

tag-below : (Fss : List (List Field)) (s : Sum (rowss Fss)) → tag (rowss Fss) s < length Fss
tag-below [] s = absurd s
tag-below (Fs ∷ Fss) (inl x) = omega arith
tag-below (Fs ∷ Fss) (inr y) = (let below = tag-below Fss y in omega arith)

-- the list has each tag
abbrev pub covers : (D : Declared) → List D.D → Bool
covers D xs = all_below (λ n. list_any (λ x. eqb (tag_of D x) n) xs) (length D.parts)

-- a value that is found in a list is in it
pub found : (D : Declared) → Bare D.parts → (xs : List D.D) (a : D.D) → list_any (λ x. sameb D x a) xs ≡ true → Contains xs a
found D bare [] a e = absurd (false≢true e)
found D bare (x ∷ xs) a e = elim (or_cases (sameb D x a) (list_any (λ x. sameb D x a) xs) e) [
  | inl here ↦ subst (Contains (x ∷ xs)) (same_true D bare x a here) (Contains-first x xs)
  | inr later ↦ Contains-later x a xs (found D bare xs a later)
]

pub is-there : (D : Declared) → Bare D.parts → (xs : List D.D) → covers D xs ≡ true → (a : D.D) → Contains xs a
is-there D bare xs all a = found D bare xs a (all_below-at (λ n. list_any (λ x. eqb (tag_of D x) n) xs) (length D.parts) (tag_of D a) all (tag-below D.parts (D.to a)))

-- a test that computes on the list holds of each value
pub each-passes : (D : Declared) → Bare D.parts → (xs : List D.D) → covers D xs ≡ true → (p : D.D → Bool) → list_all p xs ≡ true → (a : D.D) → p a ≡ true
each-passes D bare xs all p passes a = list_all-at p xs a passes (is-there D bare xs all a)
