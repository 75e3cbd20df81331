-- Words of small tables, worked out.
use Rattle.std.proofs.Common.{◌≡◌, true, false, [], ◌∷◌, map, Some, None, codes, refl}
use Rattle.word_table.specs.Words.{are_distinct, word_place}

-- a word is found in another case; a prefix of a word and a longer text are no word
pub places_of_sides : map (word_place (codes "Left" ∷ codes "Right" ∷ [])) (codes "left" ∷ codes "rIGHT" ∷ codes "Righ" ∷ codes "Lefty" ∷ [])
    ≡ Some 0 ∷ Some 1 ∷ None ∷ None ∷ []
places_of_sides = refl

-- capital letters alone keep no two words apart
pub distinct_words : are_distinct (codes "Food" ∷ codes "Foe" ∷ []) ≡ true
distinct_words = refl

pub same_words : are_distinct (codes "Foe" ∷ codes "Food" ∷ codes "FOE" ∷ []) ≡ false
same_words = refl
