-- Traces, worked out.
use Rattle.std.proofs.Common.{◌≡◌, ℕ, zero, suc, codes, refl}
use Rattle.std.specs.Fmt.{digits}
use Rattle.ant_base.specs.Layout.{numbered, ◌+++◌}
use Rattle.ant_random.specs.Stream.{drawn, random_at, state_at}
use Rattle.ant_turn.specs.Rounds.{after_round, after_turn}
use Rattle.ant_turn.specs.Turn.{turn}
use Rattle.cell_world.specs.Cell.{rock}
use Rattle.cell_world.specs.Grid.{cell_in, world_of}
use Rattle.cell_world.specs.Opening.{floor, opening}
use Rattle.cell_world.specs.World.{World, place_in, put_cell}
use Rattle.cell_world.proofs.OpeningWorked.{one_hill}
use Rattle.dump_print.specs.Content.{content_text, standing_ant_text}
use Rattle.dump_print.specs.Texts.{cell_line, seed_text}
use Rattle.hex_geometry.specs.Position.{same_pos}
use Rattle.match_run.specs.Run.{world_after}
use Rattle.match_run.proofs.RunWorked.{flipping, stone}
use Rattle.game_reports.specs.Trace.{told_line, trace_text, unmade_text, way_text}

-- one red ant on the one clear cell of a world
abbrev start : World
start = world_of (opening 3 3 one_hill)

-- its brain flips twice: its first random number goes to state 1, and its second to state 2
two_rounds_told : trace_text flipping 12345 start 2 0 0 ≡
    codes "random seed: 12345\n"
    +++ codes "round 0: cell (1, 1): red hill; red ant of id 0, dir 0, food 0, state 0, resting 0\n"
    +++ codes "round 1: cell (1, 1): red hill; red ant of id 0, dir 0, food 0, state 1, resting 0\n"
    +++ codes "round 2: cell (1, 1): red hill; red ant of id 0, dir 0, food 0, state 2, resting 0\n"
unfolding trace_text way_text told_line numbered digits seed_text cell_line content_text standing_ant_text world_after after_round after_turn turn place_in cell_in opening floor rock put_cell same_pos drawn random_at state_at
two_rounds_told = refl

-- the last round alone, and a first one above it
last_round_told : (trace_text flipping 12345 start 2 0 2 ≡ codes "random seed: 12345\nround 2: cell (1, 1): red hill; red ant of id 0, dir 0, food 0, state 2, resting 0\n")
    × (trace_text flipping 12345 start 2 0 3 ≡ codes "random seed: 12345\n")
unfolding trace_text way_text told_line numbered digits seed_text cell_line content_text standing_ant_text world_after after_round after_turn turn place_in cell_in opening floor rock put_cell same_pos drawn random_at state_at
last_round_told = (refl, refl)

-- ids are counted from 0: there is none of id 1, whatever the first round
unmade_told : (trace_text flipping 12345 start 2 1 0 ≡ codes "random seed: 12345\nno ant of id 1\n") × (trace_text flipping 12345 start 2 99 7 ≡ codes "random seed: 12345\nno ant of id 99\n")
unfolding trace_text unmade_text digits seed_text opening
unmade_told = (refl, refl)

-- worlds in which an ant lives, is gone, and would be there again
abbrev gone : ℕ → World
gone (suc zero) = stone
gone it = start

-- its death is reported once, and nothing after it
death_told : way_text gone 0 17 4 ≡ codes "round 17: cell (1, 1): red hill; red ant of id 0, dir 0, food 0, state 0, resting 0\nround 18: dead\n"
unfolding way_text told_line numbered digits cell_line content_text standing_ant_text place_in cell_in opening floor rock
death_told = refl

-- if it is dead at the first round that is reported, that is the one line
dead_first : way_text (λ i. stone) 0 17 4 ≡ codes "round 17: dead\n"
unfolding way_text told_line numbered digits place_in rock
dead_first = refl
