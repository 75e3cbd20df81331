-- The players' names.
use Rattle.std.specs.Prelude.{ℕ, List, [], ◌∷◌, ◌++◌, map, String, string_bytes, slice_index_or, if◌then◌else◌}
use Rattle.ant_base.specs.Names.{has_name}

-- the names as texts
abbrev pub texts_of : {A : Type 0} → List (String A) → List (List ℕ)
texts_of names = map string_bytes names

-- the names with this one, added last if it wasn't there
abbrev pub with_name : List (List ℕ) → List ℕ → List (List ℕ)
with_name names name = if has_name names name then names else names ++ name ∷ []

-- the name of a player
abbrev pub name_of : List (List ℕ) → ℕ → List ℕ
name_of names player = slice_index_or names player []
