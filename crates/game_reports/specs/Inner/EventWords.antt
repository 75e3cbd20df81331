-- The lines of a game's events as they are pushed: each after the LF of the previous line, and without its own.
use Rattle.std.specs.Prelude.{ℕ, ◌==◌, ◌||◌, Bool, true, false, if◌then◌else◌, List, Option, Some, None, codes, decimal, option_map}
use Rattle.hex_geometry.specs.declared.position.Pos.{Pos}
use Rattle.ant_base.specs.Layout.{text_of_option, ◌+++◌}
use Rattle.brain_read.specs.declared.instr.Instr.{Instr}
use Rattle.brain_read.specs.declared.instr.Instr.TheVariants.{Sense, Mark, Unmark, PickUp, Drop, Turn, Move, Flip}
use Rattle.cell_world.specs.declared.ant.Ant.{Ant}
use Rattle.cell_world.specs.declared.ant.PlacedAnt.{PlacedAnt}
use Rattle.cell_world.specs.declared.cell.Cell.{Cell}
use Rattle.cell_world.specs.declared.score.Score.{Score}
use Rattle.game_reports.specs.declared.reports.events.Carry.{Carry}
use Rattle.game_reports.specs.declared.reports.events.Carry.TheVariants.{Drops, Takes}
use Rattle.game_reports.specs.declared.reports.events.MovedFood.{MovedFood}
use Rattle.game_reports.specs.Events.{ant_words, hill_words, place_words}

-- the words of the round and of this ant, whose turn it is, after an LF
abbrev pub broken_turn : ℕ → Ant → List ℕ
broken_turn round actor = codes "\nround " +++ decimal round +++ codes ", " +++ ant_words (Some actor) +++ codes ": "

-- the words of an ant that dies in its turn
abbrev pub broken_death : ℕ → Ant → PlacedAnt → List ℕ
broken_death round actor killed =
    broken_turn round actor +++ ant_words (Some killed.ant) +++ codes " dies on " +++ place_words (Some killed.place)

-- the words of the score after its turn
abbrev pub broken_score : ℕ → Ant → Score → List ℕ
broken_score round actor score =
    broken_turn round actor +++ codes "score: red " +++ decimal score.red +++ codes " black " +++ decimal score.black

-- the direction in which a particle goes, by the ant's load, its cell's food and its instruction
abbrev pub carry_of : Bool → ℕ → Instr → Option Carry
carry_of laden food (Sense sight met unmet condition) = None
carry_of laden food (Mark i next) = None
carry_of laden food (Unmark i next) = None
carry_of laden food (PickUp met unmet) = if laden || (food == 0) then None else Some Takes
carry_of laden food (Drop next) = if laden then Some Drops else None
carry_of laden food (Turn side next) = None
carry_of laden food (Move met unmet) = None
carry_of laden food (Flip bound met unmet) = None

-- the particle that moves, if food is requested
abbrev pub moved_by : Bool → Cell → Ant → Instr → Option MovedFood
moved_by false cell ant instruction = None
moved_by true cell ant instruction =
    option_map (λ carry. record { carry = carry; hill = cell.hill }) (carry_of ant.laden cell.food instruction)

-- what the ant does with it
abbrev pub verb_of : Carry → List ℕ
verb_of Takes = codes " takes"
verb_of Drops = codes " drops"

-- the words of such a particle
abbrev pub broken_food : ℕ → Ant → Pos → MovedFood → List ℕ
broken_food round actor place moved =
    broken_turn round actor +++ codes "state " +++ decimal actor.state +++ verb_of moved.carry +++ codes " food on "
    +++ place_words (Some place) +++ hill_words moved.hill

-- the words of a killed ant
abbrev pub told_death : ℕ → Ant → Option PlacedAnt → List ℕ
told_death round actor killed = text_of_option (broken_death round actor) killed
