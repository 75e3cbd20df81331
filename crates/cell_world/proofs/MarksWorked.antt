-- Markers, worked out.
use Rattle.std.proofs.Common.{◌≡◌, true, false, [], ◌∷◌, map, refl}
use Rattle.cell_world.specs.Marks.{has_mark, no_marks, with_mark}

-- there are six markers, from 0 to 5: a set that has the first, the last and one beyond has these two
six_markers : map (has_mark (with_mark (with_mark (with_mark no_marks 0) 5) 6)) (0 ∷ 1 ∷ 2 ∷ 3 ∷ 4 ∷ 5 ∷ 6 ∷ []) ≡ true ∷ false ∷ false ∷ false ∷ false ∷ true ∷ false ∷ []
six_markers = refl
