-- The law of tables, used at a table of two words: a weaker law would not do.
use Rattle.std.proofs.Common.{◌≡◌, ℕ, List, [], ◌∷◌, Some, codes, refl}
use Rattle.std.specs.Prelude.{IsTrue}
use Rattle.word_table.specs.Words.{WordIsFound, are_distinct, word_place}

-- the second word is found at its place, whatever the first word
pub word_is_found_used : WordIsFound → (first : List ℕ) → IsTrue (are_distinct (first ∷ codes "Right" ∷ [])) → word_place (first ∷ codes "Right" ∷ []) (codes "Right") ≡ Some 1
word_is_found_used law first distinct = law (first ∷ codes "Right" ∷ []) 1 (codes "Right") distinct refl
