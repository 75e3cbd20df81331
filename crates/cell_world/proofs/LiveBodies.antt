-- The ants of a colour that are alive, counted by their bodies.
use Rattle.std.proofs.Common.{◌≡◌, inl, inr, ℕ, suc, zero, ◌+◌, ◌<◌, ◌≤◌, Bool, true, false, ◌&&◌, ◌*◌, cond, List, length, get_or, take, count_by, Option, Some, None, refl, sym, ◌∙◌, ap, ap₂, arith, add-one, take_all}
use Rattle.std.proofs.Math.Bool.{and-true, and-false}
use Rattle.std.proofs.lemmas.Bool.{cases_Bool, lt-ltb}
use Rattle.std.proofs.lemmas.List.{get_or-map}
use Rattle.std.proofs.lemmas.List.Sums.{sum_by_more}
use Rattle.std.specs.Option.{is_some}
use Rattle.hex_geometry.specs.declared.position.Pos.{Pos}
use Rattle.cell_world.specs.declared.ant.Ant.{Ant}
use Rattle.cell_world.specs.declared.ant.Colour.{Colour}
use Rattle.cell_world.specs.declared.body.Body.{Body}
use Rattle.cell_world.specs.declared.cell.Cell.{Cell}
use Rattle.cell_world.specs.declared.tile.Tile.{Tile}
use Rattle.cell_world.specs.Cell.{holds_id, is_ant, is_ant_of, one_if}
use Rattle.cell_world.specs.Colour.{same_colour}
use Rattle.cell_world.specs.Inner.Index.{IsIndex}
use Rattle.cell_world.specs.Grid.{IsWorld, cell_in, world_of}
use Rattle.cell_world.specs.Score.{alive_in, alive_of}
use Rattle.cell_world.specs.Inner.Stored.{grid_from, is_living, no_body, stored_places}
use Rattle.cell_world.specs.World.{place_in, sum_over}
use Rattle.hex_geometry.specs.RowOrder.{pos_at}
use Rattle.cell_world.proofs.Bodies.{ant_named-body}
use Rattle.cell_world.proofs.GridSums.{one_if-cond}
use Rattle.cell_world.proofs.AliveArePlaced.{held_once, is_below, is_below-next, is_below-zero, sum_over-zero}
use Rattle.cell_world.proofs.StoredLemmas.{ant-read}
use Rattle.cell_world.proofs.Totals.{sum_over-both, sum_over-same}

-- one more id: the ants of a colour below it, and that one where it is of the colour
next : (colour : Colour) (t : ℕ) (o : Option Ant) → one_if (is_below (suc t) o && is_ant_of colour o) ≡ one_if (is_below t o && is_ant_of colour o) + one_if (is_ant t o && is_ant_of colour o)
next colour t o = go (is_ant_of colour o) where
  go : (b : Bool) → one_if (is_below (suc t) o && b) ≡ one_if (is_below t o && b) + one_if (is_ant t o && b)
  go true = ap one_if (and-true _) ∙ is_below-next t o ∙ sym (ap₂ (λ x y. one_if x + one_if y) (and-true _) (and-true _))
  go false = ap one_if (and-false _) ∙ sym (ap₂ (λ x y. one_if x + one_if y) (and-false _) (and-false _))

-- every ant is below the number of ids
all_below : (colour : Colour) (ids : ℕ) (o : Option Ant) → ((ant : Ant) → o ≡ Some ant → ant.id < ids) → one_if (is_ant_of colour o) ≡ one_if (is_below ids o && is_ant_of colour o)
all_below colour ids None known = refl
all_below colour ids (Some ant) known = sym (ap (λ b. one_if (b && same_colour colour ant.colour)) (lt-ltb ant.id ids (known ant refl)))

module _ (width height : ℕ) (tiles : List Tile) (bodies : List Body) (fallback : Tile) (colour : Colour) (world : IsWorld (grid_from width height tiles bodies)) (index : IsIndex (grid_from width height tiles bodies) (stored_places bodies)) where
  -- the cell at a position
  abbrev cell_at : Pos → Cell
  cell_at = cell_in (grid_from width height tiles bodies)

  -- an ant of this id is of the colour of its body
  of_body : (t : ℕ) (p : Pos) → t < length bodies → (holds_id t (cell_at p) && is_ant_of colour (cell_at p).ant) ≡ (holds_id t (cell_at p) && same_colour colour (get_or bodies t no_body).colour)
  of_body t p made = elim (cases_Bool (holds_id t (cell_at p))) [
    | inl holds ↦ ap (λ o. holds_id t (cell_at p) && is_ant_of colour o) ((ant-read width height tiles bodies t p fallback world holds).1 ∙ ant_named-body bodies t no_body made)
    | inr other ↦ ap (λ b. b && is_ant_of colour (cell_at p).ant) other ∙ sym (ap (λ b. b && same_colour colour (get_or bodies t no_body).colour) other)
  ]

  -- the cells that hold it are one where its body is of the colour and has a place, and otherwise none
  held_living : (t : ℕ) → t < length bodies → sum_over width (λ p. one_if (holds_id t (cell_at p) && is_ant_of colour (cell_at p).ant)) (width * height) ≡ one_if (is_living colour (get_or bodies t no_body))
  held_living t made =
      sum_over-same width (λ p. one_if (holds_id t (cell_at p) && is_ant_of colour (cell_at p).ant)) (λ p. one_if (holds_id t (cell_at p) && same_colour colour (get_or bodies t no_body).colour)) (width * height) (λ i _. ap one_if (of_body t (pos_at width i) made))
      ∙ go (same_colour colour (get_or bodies t no_body).colour)
      ∙ ap (λ o. one_if (is_some o && same_colour colour (get_or bodies t no_body).colour)) (sym (index.agrees t None made) ∙ get_or-map (λ (b : Body). b.place) bodies t no_body None made)
    where
      go : (b : Bool) → sum_over width (λ p. one_if (holds_id t (cell_at p) && b)) (width * height) ≡ one_if (is_some (place_in (world_of (grid_from width height tiles bodies)) t) && b)
      go true =
          sum_over-same width (λ p. one_if (holds_id t (cell_at p) && true)) (λ p. one_if (holds_id t (cell_at p))) (width * height) (λ i _. ap one_if (and-true _))
          ∙ held_once (world_of (grid_from width height tiles bodies)) t world.valid
          ∙ ap one_if (sym (and-true _))
      go false =
          sum_over-same width (λ p. one_if (holds_id t (cell_at p) && false)) (λ p. 0) (width * height) (λ i _. ap one_if (and-false _))
          ∙ sum_over-zero width (width * height)
          ∙ ap one_if (sym (and-false _))

  -- the ants of the colour whose ids are below a number are as many as the living bodies before it
  below-living : (t : ℕ) → t ≤ length bodies → sum_over width (λ p. one_if (is_below t (cell_at p).ant && is_ant_of colour (cell_at p).ant)) (width * height) ≡ count_by (is_living colour) (take t bodies)
  below-living zero within =
      sum_over-same width (λ p. one_if (is_below 0 (cell_at p).ant && is_ant_of colour (cell_at p).ant)) (λ p. 0) (width * height) (λ i _. ap (λ b. one_if (b && is_ant_of colour (cell_at (pos_at width i)).ant)) (is_below-zero (cell_at (pos_at width i)).ant))
      ∙ sum_over-zero width (width * height)
  below-living (suc t) within =
      sum_over-same width (λ p. one_if (is_below (suc t) (cell_at p).ant && is_ant_of colour (cell_at p).ant)) (λ p. one_if (is_below t (cell_at p).ant && is_ant_of colour (cell_at p).ant) + one_if (holds_id t (cell_at p) && is_ant_of colour (cell_at p).ant)) (width * height) (λ i _. next colour t (cell_at (pos_at width i)).ant)
      ∙ sum_over-both width (λ p. one_if (is_below t (cell_at p).ant && is_ant_of colour (cell_at p).ant)) (λ p. one_if (holds_id t (cell_at p) && is_ant_of colour (cell_at p).ant)) (width * height)
      ∙ ap₂ ◌+◌ (below-living t (omega arith)) (held_living t (omega arith) ∙ one_if-cond (is_living colour (get_or bodies t no_body)))
      ∙ sym (sum_by_more (λ (b : Body). cond (is_living colour b) 1 0) bodies t no_body within)
      ∙ ap (λ k. count_by (is_living colour) (take k bodies)) (add-one t)

  -- the ants of the colour that are alive are as many as the living bodies
  pub alive_of-bodies : alive_of (world_of (grid_from width height tiles bodies)) colour ≡ count_by (is_living colour) bodies
  unfolding alive_of
  alive_of-bodies =
      sum_over-same width (λ p. alive_in colour (cell_at p)) (λ p. one_if (is_below (length bodies) (cell_at p).ant && is_ant_of colour (cell_at p).ant)) (width * height) (λ i _. all_below colour (length bodies) (cell_at (pos_at width i)).ant (world.valid.known (pos_at width i)))
      ∙ below-living (length bodies) (omega arith)
      ∙ ap (count_by (is_living colour)) (take_all (length bodies) bodies (omega arith))
