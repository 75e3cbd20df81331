-- Which break of a list holds, and the cells that breaks look at.
use Rattle.std.proofs.Common.{◌≡◌, ◌+◌, ◌<◌, ◌≤◌, ℕ, true, false, List, ◌∷◌, length, drop, Some, None, cond, get_or, ap, ◌∙◌}
use Rattle.std.proofs.lemmas.List.{drop_more, drop_all}
use Rattle.cell_world.specs.World.{World}
use Rattle.break_view.specs.declared.breaks.Break.{Break}
use Rattle.break_view.specs.Met.{is_met, first_met}

-- the break in front holds, or the next ones are looked at
pub first_met-here : (number : ℕ) (item : Break) (items : List Break) (w : World) (r t : ℕ) → is_met item w r t ≡ true → first_met number (item ∷ items) w r t ≡ Some number
first_met-here number item items w r t holds = ap (λ b. cond b (Some number) (first_met (number + 1) items w r t)) holds

pub first_met-later : (number : ℕ) (item : Break) (items : List Break) (w : World) (r t : ℕ) → is_met item w r t ≡ false → first_met number (item ∷ items) w r t ≡ first_met (number + 1) items w r t
first_met-later number item items w r t fails = ap (λ b. cond b (Some number) (first_met (number + 1) items w r t)) fails

module _ (items : List Break) (i number : ℕ) (d : Break) (w : World) (r t : ℕ) (below : i < length items) where
  front : first_met number (drop i items) w r t ≡ first_met number (get_or items i d ∷ drop (i + 1) items) w r t
  front = ap (λ (ls : List Break). first_met number ls w r t) (drop_more items i d below)

  -- the break at this place holds, or the next ones are looked at
  pub met-here : is_met (get_or items i d) w r t ≡ true → first_met number (drop i items) w r t ≡ Some number
  met-here holds = front ∙ first_met-here number (get_or items i d) (drop (i + 1) items) w r t holds

  pub met-later : is_met (get_or items i d) w r t ≡ false → first_met number (drop i items) w r t ≡ first_met (number + 1) (drop (i + 1) items) w r t
  met-later fails = front ∙ first_met-later number (get_or items i d) (drop (i + 1) items) w r t fails

-- how far a list has been looked at: no break before this place holds, and its number is one more
pub record IsSeen (items : List Break) (i number : ℕ) (w : World) (r t : ℕ) : Type 0 where
  pub rest : first_met number (drop i items) w r t ≡ first_met 1 items w r t
  pub counted : number ≡ i + 1

-- after the list no break holds
pub met-end : (items : List Break) (i number : ℕ) (w : World) (r t : ℕ) → length items ≤ i → first_met number (drop i items) w r t ≡ None
met-end items i number w r t all = ap (λ (ls : List Break). first_met number ls w r t) (drop_all i items all)
