-- Each law of what turns and rounds keep, used in the world of three hill cells: a weaker law would not do.
use Rattle.std.proofs.Common.{◌≡◌, ◌≢◌, ℕ, ◌+◌, ◌*◌, ◌<◌, ◌≤◌, true, false, List, length, Some, None, refl, ◌∙◌, arith}
use Rattle.std.specs.List.{AllPairs, Contains}
use Rattle.std.specs.Prelude.{IsSome}
use Rattle.hex_geometry.proofs.Places.{at}
use Rattle.hex_geometry.specs.declared.position.Pos.{Pos}
use Rattle.cell_world.specs.declared.ant.Colour.TheVariants.{Red, Black}
use Rattle.cell_world.specs.Cell.{holds_id, rock}
use Rattle.cell_world.specs.Grid.{Grid, cell_in, world_of}
use Rattle.cell_world.specs.Opening.{floor, new_ant, opening}
use Rattle.cell_world.specs.Score.{alive_of, food_of}
use Rattle.cell_world.specs.Valid.{Valid}
use Rattle.cell_world.specs.World.{World, place_in, weight, with_cells}
use Rattle.cell_world.proofs.OpeningValid.{IsWorld-opening}
use Rattle.cell_world.proofs.OpeningWorked.{IsPlan-three_hills, three_hills}
use Rattle.brain_read.specs.declared.instr.Instr.{Instr}
use Rattle.ant_turn.specs.FoodLaws.{RoundsKeepFood, TurnsKeepAnts, TurnsKeepFood, TurnsKeepWeight}
use Rattle.ant_turn.specs.HillLaws.{GamesKeepHills, RoundsKeepHills, TurnsKeepHills, hill_cells, hill_cells_of}
use Rattle.ant_turn.specs.Keeps.{Keeps}
use Rattle.ant_turn.specs.KillLaws.{TurnsKillAlone}
use Rattle.ant_turn.specs.Minds.{AreSound, Fits, Minds, contest_minds}
use Rattle.ant_turn.specs.Rounds.{after_rounds, after_turns, start_of}
use Rattle.ant_turn.specs.Turn.{turn}
use Rattle.ant_turn.specs.TurnLaws.{OpeningsFit, RoundsKeep, TurnsDraw, TurnsKeep}
use Rattle.ant_turn.proofs.FitLemmas.{Fits-opening}
use Rattle.ant_turn.proofs.HillsWorked.{three}

-- the world of three hill cells, red, red and black, which all sound brains fit
abbrev pub start : World
start = world_of (opening 5 3 three_hills)

pub start_valid : Valid start
start_valid = (IsWorld-opening 5 3 three_hills IsPlan-three_hills).valid

pub start_fits : (minds : Minds) → AreSound minds → Fits start minds
start_fits minds sound = Fits-opening 5 3 three_hills minds sound.red.some sound.black.some

-- two brains under rules by which a killed ant leaves as much as it weighed
abbrev heavy_minds : List Instr → List Instr → Minds
heavy_minds red black = record { red = red; black = black; sheet = record { surround = 5; corpse = 9; rest = 14 } }

-- the black ant is in state 0
pub openings_fit_used : OpeningsFit → (minds : Minds) → 1 ≤ length minds.red → 1 ≤ length minds.black → (0 < length minds.red) × (0 < length minds.black)
unfolding cell_in opening rock floor
openings_fit_used law minds red black =
    let fits = law 5 3 three_hills minds red black in
    (fits.below (at 1 1) (new_ant Red 0) refl, fits.below (at 3 1) (new_ant Black 2) refl)

-- what a later world has of this one
abbrev KeptOfStart : Minds → World → Type 0
KeptOfStart minds now =
    (now.width ≡ 5) × (now.height ≡ 3) × (now.ids ≡ 3)
    × ((now.cells (at 3 1)).rocky ≡ false) × ((now.cells (at 4 1)).rocky ≡ true)
    × ((now.cells (at 3 1)).hill ≡ Some Black)
    × ((t : ℕ) → ((p : Pos) → holds_id t (start.cells p) ≡ false) → (p : Pos) → holds_id t (now.cells p) ≡ false)
    × Valid now × Fits now minds × (weight now ≤ weight start)

kept_of_start : (minds : Minds) (now : World) → Keeps minds start now → KeptOfStart minds now
unfolding cell_in opening rock floor
kept_of_start minds now kept = (
  kept.width,
  kept.height,
  kept.ids,
  kept.rocks (at 3 1),
  kept.rocks (at 4 1),
  kept.hills (at 3 1),
  kept.dead,
  kept.valid,
  kept.fits,
  kept.no_heavier,
)

-- the turn of the black ant, and two rounds
pub turns_keep_used : TurnsKeep → (minds : Minds) (seed : ℕ) → AreSound minds → KeptOfStart minds (with_cells start (turn minds seed start 0 2).cells)
turns_keep_used law minds seed sound =
    kept_of_start minds (with_cells start (turn minds seed start 0 2).cells) (law minds seed start 0 2 sound start_valid (start_fits minds sound))

pub rounds_keep_used : RoundsKeep → (minds : Minds) (seed : ℕ) → AreSound minds → KeptOfStart minds (after_rounds minds seed (start_of start) 2).world
rounds_keep_used law minds seed sound =
    kept_of_start minds (after_rounds minds seed (start_of start) 2).world (law minds seed (start_of start) 2 sound start_valid (start_fits minds sound))

-- three turns, from place 5 on
pub turns_draw_used : TurnsDraw → (minds : Minds) (seed : ℕ) →
    (5 ≤ (after_turns minds seed (record { world = start; place = 5 }) 0 3).place) × ((after_turns minds seed (record { world = start; place = 5 }) 0 3).place ≤ 8)
turns_draw_used law minds seed = law minds seed (record { world = start; place = 5 }) 0 3

-- by the contest's rules each corpse is three particles more, and six less in weight; by those of heavy corpses the
-- weight stays
pub turns_keep_food_used : TurnsKeepFood → (red black : List Instr) (seed : ℕ) →
    food_of (with_cells start (turn (contest_minds red black) seed start 0 2).cells) ≡ food_of start + 3 * length (turn (contest_minds red black) seed start 0 2).killed
turns_keep_food_used law red black seed = law (contest_minds red black) seed start 0 2 start_valid

pub turns_keep_weight_used : TurnsKeepWeight → (red black : List Instr) (seed : ℕ) →
    (weight (with_cells start (turn (contest_minds red black) seed start 0 2).cells) + 6 * length (turn (contest_minds red black) seed start 0 2).killed ≡ weight start)
    × (weight (with_cells start (turn (heavy_minds red black) seed start 0 2).cells) + 0 * length (turn (heavy_minds red black) seed start 0 2).killed ≡ weight start)
turns_keep_weight_used law red black seed = (
  law (contest_minds red black) seed start 0 2 (omega arith) start_valid,
  law (heavy_minds red black) seed start 0 2 (omega arith) start_valid,
)

pub turns_keep_ants_used : TurnsKeepAnts → (minds : Minds) (seed : ℕ) →
    alive_of (with_cells start (turn minds seed start 0 2).cells) Red + alive_of (with_cells start (turn minds seed start 0 2).cells) Black
    + length (turn minds seed start 0 2).killed ≡ alive_of start Red + alive_of start Black
turns_keep_ants_used law minds seed = law minds seed start 0 2 start_valid

-- two rounds
pub rounds_keep_food_used : RoundsKeepFood → (red black : List Instr) (seed : ℕ) → AreSound (contest_minds red black) →
    let now = (after_rounds (contest_minds red black) seed (start_of start) 2).world in
    food_of now + 3 * (alive_of now Red + alive_of now Black) ≡ food_of start + 3 * (alive_of start Red + alive_of start Black)
rounds_keep_food_used law red black seed sound =
    law (contest_minds red black) seed (start_of start) 2 sound start_valid (start_fits (contest_minds red black) sound)

-- the turn of ant 0, and what comes of ant 1
pub turns_kill_alone_used : TurnsKillAlone → (red black : List Instr) (seed : ℕ) →
    let outcome = turn (heavy_minds red black) seed start 0 0 in
    ((u : ℕ) → Contains outcome.killed u → IsSome (place_in start u))
    × ((u : ℕ) → Contains outcome.killed u → place_in (with_cells start outcome.cells) u ≡ None)
    × AllPairs ◌≢◌ outcome.killed
    × ((Contains outcome.killed 1 → ⊥) → place_in (with_cells start outcome.cells) 1 ≡ place_in start 1)
    × ((Contains outcome.killed 0 → ⊥) → IsSome (place_in start 0) → IsSome (place_in (with_cells start outcome.cells) 0))
    × (place_in start 0 ≡ None → place_in (with_cells start outcome.cells) 0 ≡ None)
turns_kill_alone_used law red black seed =
    let alone = law (heavy_minds red black) seed start 0 0 (omega arith) start_valid in
    (alone.were_alive, alone.are_gone, alone.differ, alone.others_stay 1 (λ same. absurd (omega (arith, same))), alone.own_lives, alone.dead_stay)

-- after two turns, after two rounds, and in a game
pub turns_keep_hills_used : TurnsKeepHills → (minds : Minds) (seed : ℕ) → AreSound minds →
    (((after_turns minds seed (start_of start) 1 2).world.cells (at 3 1)).hill ≡ Some Black) × (hill_cells_of (after_turns minds seed (start_of start) 1 2).world ≡ 3)
unfolding cell_in opening rock floor
turns_keep_hills_used law minds seed sound =
    let has = law minds seed (start_of start) 1 2 sound start_valid (start_fits minds sound) in
    (has.each (at 3 1), has.count ∙ three.0)

pub rounds_keep_hills_used : RoundsKeepHills → (minds : Minds) (seed : ℕ) → AreSound minds →
    (((after_rounds minds seed (start_of start) 2).world.cells (at 3 1)).hill ≡ Some Black) × (hill_cells_of (after_rounds minds seed (start_of start) 2).world ≡ 3)
unfolding cell_in opening rock floor
rounds_keep_hills_used law minds seed sound =
    let has = law minds seed (start_of start) 2 sound start_valid (start_fits minds sound) in
    (has.each (at 3 1), has.count ∙ three.0)

pub games_keep_hills_used : GamesKeepHills → (minds : Minds) (seed : ℕ) →
    ((after_rounds minds seed (start_of start) 2).world.ids ≡ 3)
    × (AreSound minds → hill_cells_of (after_rounds minds seed (start_of start) 2).world ≡ 3)
    × ((g : Grid) → AreSound minds → length g.cells ≡ g.width * g.height → world_of g ≡ (after_rounds minds seed (start_of start) 2).world → hill_cells g.cells ≡ g.ids)
games_keep_hills_used law minds seed = (
  law.ids minds seed 5 3 three_hills 2,
  law.count minds seed 5 3 three_hills 2 IsPlan-three_hills,
  (λ g sound full same. law.cells minds seed 5 3 three_hills 2 g IsPlan-three_hills sound full same),
)
