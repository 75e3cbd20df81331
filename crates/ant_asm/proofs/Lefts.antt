-- What is left of bodies that are inside one another, the innermost first.
use Rattle.std.proofs.Common.{◌≡◌, List, [], ◌∷◌, ◌++◌, map, sym, ap, ◌∙◌, append_assoc, append-nil}
use Rattle.ant_asm.specs.Inner.Left.{left_by}

pub left_by-last : {L S A : Type 0} (step : L → S) (tell : L → List S → List A) (front : List L) (level : L) (way : List S) →
    left_by step tell (front ++ level ∷ []) way ≡ tell level (way ++ map step front) ++ left_by step tell front way
left_by-last step tell [] level way = ap (tell level) (sym (append-nil way)) ∙ sym (append-nil (tell level (way ++ [])))
left_by-last step tell (outer ∷ front) level way =
    ap (λ (l : _). l ++ tell outer way) (left_by-last step tell front level (way ++ step outer ∷ []))
    ∙ append_assoc (tell level ((way ++ step outer ∷ []) ++ map step front)) (left_by step tell front (way ++ step outer ∷ [])) (tell outer way)
    ∙ ap (λ (w : List _). tell level w ++ (left_by step tell front (way ++ step outer ∷ []) ++ tell outer way)) (append_assoc way (step outer ∷ []) (map step front))
