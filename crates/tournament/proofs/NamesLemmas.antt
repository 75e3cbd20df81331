-- Whether a name is among those of a list, looked for from its first on.
use Rattle.std.proofs.Common.{◌≡◌, ℕ, ◌+◌, ◌<◌, ◌≤◌, Bool, false, ◌||◌, List, ◌∷◌, length, get_or, drop, sym, ap, ◌∙◌}
use Rattle.std.specs.Prelude.{String, string_bytes}
use Rattle.std.specs.Str.{bytes_eq}
use Rattle.std.proofs.lemmas.List.{drop_all, drop_more}
use Rattle.ant_base.specs.Names.{has_name}
use Rattle.tournament.specs.Names.{texts_of}

module _ {A : Type 0} (names : List (String A)) (i : ℕ) (name : List ℕ) (whole : Bool) (before : has_name (texts_of (drop i names)) name ≡ whole) where
  -- the next one is looked at
  pub looked_at : (other : String A) (text : List ℕ) (answer : Bool) → i < length names → other ≡ get_or names i other → text ≡ string_bytes other → bytes_eq text name ≡ answer
      → (answer || has_name (texts_of (drop (i + 1) names)) name) ≡ whole
  looked_at other text answer lt is reads same =
      let here : answer ≡ bytes_eq (string_bytes other) name = sym same ∙ ap (λ t. bytes_eq t name) reads in
      ap (λ b. b || has_name (texts_of (drop (i + 1) names)) name) here
      ∙ ap (λ l. has_name (texts_of l) name) (ap (λ o. o ∷ drop (i + 1) names) is ∙ sym (drop_more names i other lt)) ∙ before

  -- none is left
  pub none_left : length names ≤ i → false ≡ whole
  none_left done = ap (λ l. has_name (texts_of l) name) (sym (drop_all i names done)) ∙ before
