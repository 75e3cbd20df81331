-- The hills that turns and rounds keep, and how many cells they have.
use Rattle.std.proofs.Common.{◌≡◌, ℕ, ◌+◌, ◌*◌, List, [], ◌∷◌, length, sum_by, refl, sym, ◌∙◌, ap, ap₂}
use Rattle.std.specs.Option.{is_some}
use Rattle.std.proofs.lemmas.List.Sums.{sum_by-cons}
use Rattle.hex_geometry.specs.declared.position.Pos.{Pos}
use Rattle.cell_world.specs.declared.cell.Cell.{Cell}
use Rattle.cell_world.specs.declared.kind.Kind.{Kind}
use Rattle.cell_world.specs.declared.kind.Kind.TheVariants.{Rock}
use Rattle.cell_world.specs.Cell.{one_if, rock}
use Rattle.cell_world.specs.Grid.{Grid, world_of}
use Rattle.cell_world.specs.Opening.{IsPlan, floor, hill_count, is_hill, opening, opening_cell, opening_cells}
use Rattle.cell_world.specs.World.{World, area, sum_over}
use Rattle.hex_geometry.specs.RowOrder.{pos_at}
use Rattle.cell_world.proofs.GridSums.{total-list}
use Rattle.cell_world.proofs.OpeningValid.{IsWorld-opening}
use Rattle.cell_world.proofs.Openings.{length-opening_cells}
use Rattle.cell_world.proofs.Totals.{sum_over-same}
use Rattle.ant_turn.specs.HillLaws.{GamesKeepHills, HasHillsOf, RoundsKeepHills, TurnsKeepHills, game_after, hill_cell_in, hill_cells, hill_cells_of}
use Rattle.ant_turn.specs.Keeps.{Keeps}
use Rattle.ant_turn.specs.Minds.{Minds, AreSound}
use Rattle.ant_turn.specs.Rounds.{start_of}
use Rattle.ant_turn.proofs.FitLemmas.{Fits-opening}
use Rattle.ant_turn.proofs.KeptByRounds.{Keeps-after_rounds, Keeps-after_turns, after_rounds-ids}

-- worlds of one size whose cells are of the same hills have as many hill cells
pub hill_cells_of-same : (earlier now : World) → now.width ≡ earlier.width → now.height ≡ earlier.height → ((p : Pos) → (now.cells p).hill ≡ (earlier.cells p).hill) → hill_cells_of now ≡ hill_cells_of earlier
unfolding hill_cells_of
hill_cells_of-same earlier now wide tall hills =
    ap₂ (λ width n. sum_over width (λ p. hill_cell_in (now.cells p)) n) wide (ap₂ ◌*◌ wide tall)
    ∙ sum_over-same earlier.width (λ p. hill_cell_in (now.cells p)) (λ p. hill_cell_in (earlier.cells p)) (area earlier) (λ i early. ap (λ hill. one_if (is_some hill)) (hills (pos_at earlier.width i)))

-- what a world keeps from turn to turn has its hills
pub HasHillsOf-Keeps : {minds : Minds} {earlier now : World} → Keeps minds earlier now → HasHillsOf earlier now
HasHillsOf-Keeps {minds} {earlier} {now} kept = record { each = kept.hills; count = hill_cells_of-same earlier now kept.width kept.height kept.hills }

pub turns_keep_hills : TurnsKeepHills
turns_keep_hills minds seed m from n sound valid fits = HasHillsOf-Keeps (Keeps-after_turns minds seed m from n sound valid fits)

pub rounds_keep_hills : RoundsKeepHills
rounds_keep_hills minds seed m r sound valid fits = HasHillsOf-Keeps (Keeps-after_rounds minds seed m r sound valid fits)

-- the hill cells of a list are counted one after another
hill_cells-sum : (cells : List Cell) → sum_by hill_cell_in cells ≡ hill_cells cells
hill_cells-sum [] = refl
hill_cells-sum (cell ∷ cells) = sum_by-cons hill_cell_in cell cells ∙ ap (λ n. hill_cell_in cell + n) (hill_cells-sum cells)

-- the hill cells of a grid's world are those of its list
pub hill_cells_of-list : (g : Grid) → length g.cells ≡ g.width * g.height → hill_cells_of (world_of g) ≡ hill_cells g.cells
unfolding hill_cells_of
hill_cells_of-list g full = total-list g hill_cell_in full ∙ hill_cells-sum g.cells

-- a cell is of a hill at the start where its kind is
hill-opening_cell : (t : ℕ) (kind : Kind) → is_some (opening_cell t kind).hill ≡ is_hill kind
unfolding floor rock
hill-opening_cell t Rock = refl
hill-opening_cell t it = refl

-- the hill cells at the start
pub hill_cells-opening_cells : (t : ℕ) (kinds : List Kind) → hill_cells (opening_cells t kinds) ≡ hill_count kinds
hill_cells-opening_cells t [] = refl
hill_cells-opening_cells t (kind ∷ kinds) = ap₂ ◌+◌ (ap one_if (hill-opening_cell t kind)) (hill_cells-opening_cells (t + one_if (is_hill kind)) kinds)

module _ (width height : ℕ) (kinds : List Kind) where
  -- a world has at the start the hill cells of its kinds
  pub hill_cells_of-opening : IsPlan width height kinds → hill_cells_of (world_of (opening width height kinds)) ≡ hill_count kinds
  unfolding opening
  hill_cells_of-opening plan = hill_cells_of-list (opening width height kinds) (length-opening_cells 0 kinds ∙ plan.full) ∙ hill_cells-opening_cells 0 kinds

  module _ (minds : Minds) (seed r : ℕ) where
    ids-game : (game_after minds seed width height kinds r).world.ids ≡ hill_count kinds
    unfolding opening
    ids-game = after_rounds-ids minds seed (start_of (world_of (opening width height kinds))) r

    hills-game : IsPlan width height kinds → AreSound minds → hill_cells_of (game_after minds seed width height kinds r).world ≡ hill_count kinds
    hills-game plan sound =
        (rounds_keep_hills minds seed (start_of (world_of (opening width height kinds))) r sound (IsWorld-opening width height kinds plan).valid (Fits-opening width height kinds minds sound.red.some sound.black.some)).count
        ∙ hill_cells_of-opening plan

pub games_keep_hills : GamesKeepHills
games_keep_hills = record {
  ids = λ minds seed width height kinds r. ids-game width height kinds minds seed r;
  count = λ minds seed width height kinds r plan sound. hills-game width height kinds minds seed r plan sound;
  cells = λ minds seed width height kinds r g plan sound full is.
      sym (hill_cells_of-list g full)
      ∙ ap hill_cells_of is
      ∙ hills-game width height kinds minds seed r plan sound
      ∙ sym (ap (λ (w : World). w.ids) is ∙ ids-game width height kinds minds seed r);
}
