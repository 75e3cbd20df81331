-- Lists that a loop builds from others, element by element.
use Rattle.std.proofs.Common.{◌≡◌, ℕ, ◌+◌, ◌<◌, ◌≤◌, List, [], ◌∷◌, ◌++◌, length, map, drop, get_or, sym, ap, ◌∙◌}
use Rattle.std.proofs.lemmas.List.{append-nil, append_assoc, drop_all, drop_more}

module _ {A B : Type 0} (f : A → B) (xs : List A) (made : List B) (i : ℕ) where
  -- one element more
  pub made-more : (x other : A) (more : List B) → i < length xs → x ≡ get_or xs i other → more ≡ made ++ f x ∷ [] → made ++ map f (drop i xs) ≡ map f xs → more ++ map f (drop (i + 1) xs) ≡ map f xs
  made-more x other more inside is last before =
      ap (λ (l : List B). l ++ map f (drop (i + 1) xs)) last
      ∙ append_assoc made (f x ∷ []) (map f (drop (i + 1) xs))
      ∙ ap (λ (l : List A). made ++ map f l) (sym (drop_more xs i other inside ∙ ap (λ (y : A). y ∷ drop (i + 1) xs) (sym is)))
      ∙ before

  -- all elements
  pub made-all : length xs ≤ i → made ++ map f (drop i xs) ≡ map f xs → made ≡ map f xs
  made-all done before = sym (append-nil made) ∙ ap (λ (l : List A). made ++ map f l) (sym (drop_all i xs done)) ∙ before

-- no element yet
pub made-none : {A B : Type 0} (f : A → B) (xs : List A) (made : List B) → made ≡ [] → made ++ map f xs ≡ map f xs
made-none f xs made none = ap (λ (l : List _). l ++ map f xs) none
