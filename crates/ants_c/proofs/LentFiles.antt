-- Files that a caller lends, one after another.
use Rattle.std.proofs.Common.{◌≡◌, ◌≤◌, ◌∙◌, ℕ, List, [], ◌∷◌, None, drop, length, refl, sym, ap}
use Rattle.std.proofs.lemmas.List.{drop_all}
use Rattle.ant_base.specs.MemShelf.{content_of}
use Rattle.ants_c.specs.Called.{files_in}

without_sizes : (names : List (List ℕ)) (bytes name : List ℕ) → None ≡ content_of (files_in names [] bytes) name
without_sizes [] bytes name = refl
without_sizes (other ∷ names) bytes name = refl

-- if no size is left, no name has a content
pub none_sized : (names : List (List ℕ)) (sizes bytes name : List ℕ) (i : ℕ) → length sizes ≤ i → None ≡ content_of (files_in names (drop i sizes) bytes) name
none_sized names sizes bytes name i all = without_sizes names bytes name ∙ sym (ap (λ (left : List ℕ). content_of (files_in names left bytes) name) (drop_all i sizes all))
