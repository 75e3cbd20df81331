-- Which rounds of a run are dumped, and what stands around the dumps.
use Rattle.std.proofs.Common.{◌≡◌, ℕ, List, [], ◌∷◌, Option, Some, true, codes, map, refl}
use Rattle.std.specs.Prelude.{option_map}
use Rattle.std.specs.Fmt.{digits}
use Rattle.std.specs.List.{filter}
use Rattle.ant_base.specs.Layout.{numbered, ◌+++◌}
use Rattle.ant_random.specs.Stream.{drawn, random_at, state_at}
use Rattle.brain_read.specs.declared.instr.Instr.TheVariants.{Drop, Flip}
use Rattle.cell_world.specs.declared.ant.Ant.{Ant}
use Rattle.cell_world.specs.declared.ant.Colour.TheVariants.{Red}
use Rattle.cell_world.specs.Cell.{rock}
use Rattle.cell_world.specs.Grid.{cell_in, world_of}
use Rattle.cell_world.specs.Opening.{floor, hill_cell, new_ant, opening}
use Rattle.cell_world.proofs.OpeningWorked.{one_hill}
use Rattle.cell_world.specs.Score.{score_of, hill_food_of}
use Rattle.cell_world.specs.World.{World, place_in, put, put_cell}
use Rattle.hex_geometry.specs.Position.{same_pos}
use Rattle.ant_turn.specs.Minds.{Minds, contest_minds}
use Rattle.ant_turn.specs.Rounds.{after_round, after_turn}
use Rattle.ant_turn.specs.Sheet.{contest}
use Rattle.ant_turn.specs.Turn.{turn}
use Rattle.dump_print.specs.Content.{content_text}
use Rattle.dump_print.specs.Texts.{cell_line, row_text, cells_text, dump_text, seed_text, score_text}
use Rattle.match_run.specs.declared.dumps.Dumps.TheVariants.{Nothing, All, Chosen}
use Rattle.match_run.specs.Dumps.{chooses, has_round}
use Rattle.match_run.specs.Run.{dumps_text, most_rounds, run_text, world_after}
use Rattle.match_run.specs.declared.plan.TheConstants.{MOST_ROUNDS}

-- the most rounds that code names are those of the definitions
most_rounds-named : MOST_ROUNDS ≡ most_rounds
most_rounds-named = refl

-- the rounds of a game of four rounds
abbrev rounds : List ℕ
rounds = 0 ∷ 1 ∷ 2 ∷ 3 ∷ 4 ∷ []

-- of a list the rounds that the game has, each once and in order
pub list_chooses : filter (chooses (Chosen (record { numbers = 7 ∷ 3 ∷ 0 ∷ 3 ∷ []; spare = 0 }))) rounds ≡ 0 ∷ 3 ∷ []
list_chooses = refl

pub all_choose : filter (chooses All) rounds ≡ rounds
all_choose = refl

pub nothing_chooses : filter (chooses Nothing) rounds ≡ []
nothing_chooses = refl

-- one rocky cell, and no ant
abbrev pub stone : World
stone = record { width = 1; height = 1; ids = 0; cells = λ p. rock }

abbrev pub nobody : Minds
nobody = record { red = []; black = []; sheet = contest }

-- the text of two rounds of which the start and the last one are dumped
pub text_of_two_rounds : run_text nobody 12345 2 (has_round (2 ∷ 0 ∷ 2 ∷ [])) stone ≡
    codes "random seed: 12345\n"
    +++ codes "\nAfter round 0...\ncell (0, 0): rock\n"
    +++ codes "\nAfter round 2...\ncell (0, 0): rock\n"
    +++ codes "\nscore: red 0 black 0\n"
unfolding run_text dumps_text world_after numbered seed_text dump_text cells_text row_text cell_line content_text rock score_text score_of hill_food_of after_round digits
text_of_two_rounds = refl

-- one red ant, whose brain flips twice: its first random number goes to state 1, and its second to state 2
abbrev pub flipping : Minds
flipping = contest_minds (Flip 4 0 1 ∷ Flip 4 2 1 ∷ Drop 2 ∷ []) (Drop 0 ∷ [])

abbrev state_in : World → Option ℕ
state_in w = option_map (λ (ant : Ant). ant.state) (w.cells (record { x = 1; y = 1 })).ant

-- round 0 is the start, and each round continues where the one before it stopped
pub states_follow : map (λ round. state_in (world_after flipping 12345 (world_of (opening 3 3 one_hill)) round)) (0 ∷ 1 ∷ 2 ∷ []) ≡ Some 0 ∷ Some 1 ∷ Some 2 ∷ []
unfolding world_after after_round after_turn turn place_in cell_in opening floor rock put_cell same_pos drawn random_at state_at
states_follow = refl

-- a red ant that carries food on its hill and drops it there in the first round
abbrev pub laden_at_home : World
laden_at_home = put (world_of (opening 3 3 one_hill)) (record { x = 1; y = 1 }) (record (hill_cell Red 0) { ant = Some (record (new_ant Red 0) { laden = true }) })

-- the score is that of the end
end_scores : run_text (contest_minds (Drop 0 ∷ []) (Drop 0 ∷ [])) 12345 1 (has_round []) laden_at_home ≡ codes "random seed: 12345\n" +++ codes "\nscore: red 1 black 0\n"
unfolding run_text dumps_text world_after numbered seed_text score_text score_of hill_food_of after_round after_turn turn place_in cell_in opening floor rock put_cell same_pos digits
end_scores = refl
