-- Tests that the elements of a list pass, and what is found in it.
use Rattle.std.proofs.Common.{◌≡◌, Bool, true, false, inl, inr, List, [], ◌∷◌, refl, sym, subst, ap, ◌∙◌, cond, Some, find}
use Rattle.std.specs.List.{Contains, list_all}
use Rattle.std.proofs.lemmas.Bool.{and_parts, and_from}
use Rattle.list_lemmas.proofs.Elements.{Contains-none, Contains-first, Contains-later, Contains-cases}

-- a test that all elements pass
pub list_all-at : {X : Type 0} (p : X → Bool) (xs : List X) (x : X) → list_all p xs ≡ true → Contains xs x → p x ≡ true
list_all-at p [] x e has = absurd (Contains-none x has)
list_all-at p (y ∷ ys) x e has =
    let parts = and_parts (p y) (list_all p ys) e in
    elim (Contains-cases y x ys has) [ inl here ↦ ap p (sym here) ∙ parts.0 | inr later ↦ list_all-at p ys x parts.1 later ]

pub list_all-each : {X : Type 0} (p : X → Bool) (xs : List X) → ((x : X) → Contains xs x → p x ≡ true) → list_all p xs ≡ true
list_all-each p [] each = refl
list_all-each p (y ∷ ys) each = and_from (p y) (list_all p ys) (each y (Contains-first y ys)) (list_all-each p ys (λ x has. each x (Contains-later y x ys has)))

-- what is found passes the test
pub find-passes : {X : Type 0} (p : X → Bool) (xs : List X) (x : X) → find p xs ≡ Some x → p x ≡ true
find-passes p [] x e = cc
find-passes p (y ∷ ys) x e = go (p y) refl e (find-passes p ys x) where
  go : (b : Bool) → p y ≡ b → cond b (Some y) (find p ys) ≡ Some x → (find p ys ≡ Some x → p x ≡ true) → p x ≡ true
  go true passes e rest = (let here : y ≡ x = cc in ap p (sym here) ∙ passes)
  go false fails e rest = rest e

-- what is found is in the list
pub find-Contains : {X : Type 0} (p : X → Bool) (xs : List X) (x : X) → find p xs ≡ Some x → Contains xs x
find-Contains p [] x e = cc
find-Contains p (y ∷ ys) x e = go (p y) e (find-Contains p ys x) where
  go : (b : Bool) → cond b (Some y) (find p ys) ≡ Some x → (find p ys ≡ Some x → Contains ys x) → Contains (y ∷ ys) x
  go true e rest = (let here : y ≡ x = cc in subst (Contains (y ∷ ys)) here (Contains-first y ys))
  go false e rest = Contains-later y x ys (rest e)
