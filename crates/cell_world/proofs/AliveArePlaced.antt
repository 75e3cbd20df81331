-- The ants alive, counted by their ids.
use Rattle.std.proofs.Common.{◌≡◌, inl, inr, ℕ, suc, zero, ◌+◌, ◌<◌, Bool, true, false, ltb, Option, Some, None, refl, sym, ◌∙◌, ap, ap₂, arith}
use Rattle.std.proofs.lemmas.Bool.{cases_lt, cases_eq, eq-eqb, le-ltb, lt-ltb, ne_eqb}
use Rattle.std.specs.Option.{is_some}
use Rattle.hex_geometry.specs.declared.position.Pos.{Pos}
use Rattle.cell_world.specs.declared.ant.Ant.{Ant}
use Rattle.cell_world.specs.declared.ant.Colour.{Colour}
use Rattle.cell_world.specs.declared.ant.Colour.TheVariants.{Red, Black}
use Rattle.cell_world.specs.Cell.{holds_id, is_ant, is_ant_of, one_if}
use Rattle.cell_world.specs.Colour.{same_colour}
use Rattle.cell_world.specs.CountLaws.{placed_below}
use Rattle.hex_geometry.proofs.RowLemmas.{index_of-pos_at}
use Rattle.hex_geometry.specs.RowOrder.{index_of, pos_at}
use Rattle.cell_world.specs.Score.{alive_in, alive_of}
use Rattle.cell_world.specs.Valid.{Valid}
use Rattle.cell_world.specs.World.{World, area, first_of, place_in, sum_over, total}
use Rattle.cell_world.proofs.Places.{first_of-found, or_here}
use Rattle.cell_world.proofs.Totals.{sum_over-both, sum_over-same}

-- whether the ant, if there is one, has an id below this number
abbrev pub is_below : ℕ → Option Ant → Bool
is_below t None = false
is_below t (Some ant) = ltb ant.id t

-- one more id: the ants below it, and that one
pub is_below-next : (t : ℕ) (o : Option Ant) → one_if (is_below (suc t) o) ≡ one_if (is_below t o) + one_if (is_ant t o)
is_below-next t None = refl
is_below-next t (Some ant) =
    elim (cases_lt ant.id t) [
      | inl early ↦ ap one_if (lt-ltb ant.id (suc t) (omega arith)) ∙ sym (ap₂ (λ a b. one_if a + one_if b) (lt-ltb ant.id t early) (ne_eqb ant.id t (λ e. omega arith)))
      | inr late ↦ elim (cases_eq ant.id t) [
        | inl same ↦ ap one_if (lt-ltb ant.id (suc t) (omega arith)) ∙ sym (ap₂ (λ a b. one_if a + one_if b) (le-ltb ant.id t late) (eq-eqb ant.id t same))
        | inr other ↦ ap one_if (le-ltb ant.id (suc t) (omega arith)) ∙ sym (ap₂ (λ a b. one_if a + one_if b) (le-ltb ant.id t late) (ne_eqb ant.id t other))
      ]
    ]

-- if one position at most passes a test, the positions that pass are as many as a search finds
sum_over-found : (width : ℕ) (test : Pos → Bool) (n : ℕ) → ((p q : Pos) → test p ≡ true → test q ≡ true → p ≡ q) → sum_over width (λ p. one_if (test p)) n ≡ one_if (is_some (first_of width test n))
sum_over-found width test zero one = refl
sum_over-found width test (suc n) one =
    ap (λ k. k + one_if (test (pos_at width n))) (sum_over-found width test n one) ∙ step (first_of width test n) refl (test (pos_at width n)) refl
  where
    step : (found : Option Pos) → first_of width test n ≡ found → (here : Bool) → test (pos_at width n) ≡ here → one_if (is_some found) + one_if here ≡ one_if (is_some (or_here found here (pos_at width n)))
    step None f true h = refl
    step None f false h = refl
    step (Some q) f false h = refl
    step (Some q) f true h =
        let it = first_of-found width test n q f in
        let same : pos_at width it.number ≡ pos_at width n = it.at ∙ one q (pos_at width n) it.passes h in
        let number : it.number ≡ n = sym (index_of-pos_at width it.number) ∙ ap (index_of width) same ∙ index_of-pos_at width n in
        let early = it.early in
        absurd (omega arith)

-- the cells that hold an ant are as many as its places: one or none
pub held_once : (w : World) (t : ℕ) → Valid w → total (λ cell. one_if (holds_id t cell)) w ≡ one_if (is_some (place_in w t))
unfolding place_in
held_once w t valid = sum_over-found w.width (λ p. holds_id t (w.cells p)) (area w) (valid.once t)

-- no id is below zero
pub is_below-zero : (o : Option Ant) → is_below 0 o ≡ false
is_below-zero None = refl
is_below-zero (Some ant) = le-ltb ant.id 0 (omega arith)

-- nothing anywhere comes to nothing
pub sum_over-zero : (width n : ℕ) → sum_over width (λ p. 0) n ≡ 0
sum_over-zero width zero = refl
sum_over-zero width (suc n) = let front = sum_over-zero width n in omega arith

-- the ants whose ids are below a number are as many as the ids below it that have a place
below-placed : (w : World) (t : ℕ) → Valid w → total (λ cell. one_if (is_below t cell.ant)) w ≡ placed_below w t
below-placed w zero valid =
    sum_over-same w.width (λ p. one_if (is_below 0 (w.cells p).ant)) (λ p. 0) (area w) (λ i _. ap one_if (is_below-zero (w.cells (pos_at w.width i)).ant)) ∙ sum_over-zero w.width (area w)
below-placed w (suc t) valid =
    sum_over-same w.width (λ p. one_if (is_below (suc t) (w.cells p).ant)) (λ p. one_if (is_below t (w.cells p).ant) + one_if (holds_id t (w.cells p))) (area w) (λ i _. is_below-next t (w.cells (pos_at w.width i)).ant)
    ∙ sum_over-both w.width (λ p. one_if (is_below t (w.cells p).ant)) (λ p. one_if (holds_id t (w.cells p))) (area w)
    ∙ ap₂ ◌+◌ (below-placed w t valid) (held_once w t valid)

-- an ant is of one colour
pub of_one_colour : (colour : Colour) → one_if (same_colour Red colour) + one_if (same_colour Black colour) ≡ 1
of_one_colour Red = refl
of_one_colour Black = refl

-- an ant is red or black, and its id was made
either_colour : (ids : ℕ) (o : Option Ant) → ((ant : Ant) → o ≡ Some ant → ant.id < ids) → one_if (is_ant_of Red o) + one_if (is_ant_of Black o) ≡ one_if (is_below ids o)
either_colour ids None known = refl
either_colour ids (Some ant) known = of_one_colour ant.colour ∙ ap one_if (sym (lt-ltb ant.id ids (known ant refl)))

-- the ants alive are as many as the ids that have a place
pub alive-placed : (w : World) → Valid w → alive_of w Red + alive_of w Black ≡ placed_below w w.ids
unfolding alive_of
alive-placed w valid =
    sym (sum_over-both w.width (λ p. alive_in Red (w.cells p)) (λ p. alive_in Black (w.cells p)) (area w))
    ∙ sum_over-same w.width (λ p. alive_in Red (w.cells p) + alive_in Black (w.cells p)) (λ p. one_if (is_below w.ids (w.cells p).ant)) (area w) (λ i _. either_colour w.ids (w.cells (pos_at w.width i)).ant (valid.known (pos_at w.width i)))
    ∙ below-placed w w.ids valid
