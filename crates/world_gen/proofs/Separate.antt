-- Placed elements lie apart.
use Rattle.list_lemmas.proofs.Elements.{Contains-none}
use Rattle.std.proofs.Common.{ℕ, List, [], ◌∷◌, ◌++◌, length, get_or, sym, arith, subst, inl, inr, append_assoc}
use Rattle.std.proofs.lemmas.List.{append-nil}
use Rattle.std.proofs.lemmas.List.Elements.{Contains-get_or, Contains-push_cases}
use Rattle.std.proofs.lemmas.List.Quantifiers.{all_pairs_push}
use Rattle.world_gen.proofs.Follows.{goes_fits}
use Rattle.world_gen.specs.Elements.{IsCell, element_of}
use Rattle.world_gen.specs.FreeSpots.{IsFreeSpot}
use Rattle.world_gen.specs.Placing.{Follow}
use Rattle.world_gen.specs.PlacingLaws.{AreApart, ElementsLieApart, IsSeparated}
use Rattle.world_gen.specs.declared.shape.Shape.{Shape}
use Rattle.world_gen.specs.declared.spot.Spot.{Spot}

apart_none : (width height : ℕ) → IsSeparated width height []
apart_none width height = record { off_rim = λ spot q among cell. absurd (Contains-none spot among); apart = λ i j d before within. absurd (omega arith) }

-- one that fits is apart from all before it
apart_more : (width height : ℕ) (placed : List Spot) (spot : Spot) → IsSeparated width height placed → IsFreeSpot width height placed spot → IsSeparated width height (placed ++ spot ∷ [])
apart_more width height placed spot before fits = record {
  off_rim = λ other q among cell.
      elim (Contains-push_cases placed spot other among) [
        | inl old ↦ before.off_rim other q old cell
        | inr same ↦ fits.off_rim q (subst (λ s. IsCell s q) (sym same) cell)
      ];
  apart = all_pairs_push AreApart placed spot before.apart (λ k d h q r one other touching. fits.apart (get_or placed k d) r q (Contains-get_or placed k d h) other one touching);
}

follow_apart : (seed : ℕ) (shape : Shape) (placed : List Spot) (g : ℕ) (rest : List Spot) (after : ℕ) → Follow seed shape placed g rest after → IsSeparated shape.width shape.height placed → IsSeparated shape.width shape.height (placed ++ rest)
follow_apart seed shape placed g [] after follow before = subst (IsSeparated shape.width shape.height) (sym (append-nil placed)) before
follow_apart seed shape placed g (spot ∷ rest) after follow before =
    let fits = goes_fits (IsFreeSpot shape.width shape.height placed) seed shape.width shape.height (element_of shape (length placed)) g spot follow.0 follow.1 in
    subst (IsSeparated shape.width shape.height) (append_assoc placed (spot ∷ []) rest)
    (follow_apart seed shape (placed ++ spot ∷ []) follow.0 rest after follow.2 (apart_more shape.width shape.height placed spot before fits))

pub lie_apart : ElementsLieApart
lie_apart seed shape placed placing = follow_apart seed shape [] 0 placed placing.after placing.follow (apart_none shape.width shape.height)
