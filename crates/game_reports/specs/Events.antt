-- The deaths, the food taken and dropped, and the scores of a game (this project's own; deaths are the task's martial
-- arts, food and the score its game play).
use Rattle.std.specs.Prelude.{ℕ, ◌==◌, ◌&&◌, Bool, true, false, if◌then◌else◌, List, [], ◌∷◌, ◌++◌, map, flat_map, Option, Some, None, codes, decimal}
use Rattle.hex_geometry.specs.declared.position.Pos.{Pos}
use Rattle.ant_base.specs.Layout.{◌+++◌}
use Rattle.ant_turn.specs.Minds.{Minds}
use Rattle.ant_turn.specs.Rounds.{Moment, start_of}
use Rattle.ant_turn.specs.Turn.{turn}
use Rattle.cell_world.specs.declared.ant.Ant.{Ant}
use Rattle.cell_world.specs.declared.ant.Colour.{Colour}
use Rattle.cell_world.specs.declared.score.Score.{Score}
use Rattle.cell_world.specs.Score.{score_of}
use Rattle.cell_world.specs.World.{World, with_cells}
use Rattle.dump_print.specs.Content.{colour_text}
use Rattle.dump_print.specs.Texts.{seed_text}
use Rattle.match_run.specs.Seen.{Killed, Seen, ant_in, death_place, drops_food, takes_food}
use Rattle.match_run.specs.Told.{told_in_rounds}

-- an ant's colour and id
abbrev pub ant_words : Option Ant → List ℕ
ant_words None = []
ant_words (Some ant) = colour_text ant.colour +++ codes " ant " +++ decimal ant.id

-- a position
abbrev pub place_words : Option Pos → List ℕ
place_words None = []
place_words (Some p) = codes "(" +++ decimal p.x +++ codes ", " +++ decimal p.y +++ codes ")"

-- the round, and the ant whose turn it is
abbrev pub turn_words : ℕ → World → ℕ → List ℕ
turn_words round w t = codes "round " +++ decimal round +++ codes ", " +++ ant_words (ant_in w t) +++ codes ": "

-- the line of an ant that is killed in a turn, without its LF
unfoldable pub death_words : ℕ → World → ℕ → ℕ → List ℕ
death_words round w t killed = turn_words round w t +++ ant_words (ant_in w killed) +++ codes " dies on " +++ place_words (death_place w t killed)

-- the line of the score after a turn, without its LF
unfoldable pub score_words : ℕ → World → ℕ → Score → List ℕ
score_words round w t score = turn_words round w t +++ codes "score: red " +++ decimal score.red +++ codes " black " +++ decimal score.black

-- whether two scores are equal
abbrev pub same_score : Score → Score → Bool
same_score one other = (one.red == other.red) && (one.black == other.black)

-- the scores that are reported of a turn: the one after it, if it has changed
abbrev pub changed_score : Score → Score → List Score
changed_score before after = if same_score before after then [] else after ∷ []

-- the line of an ant that is killed in the turn of another
abbrev pub death_line : ℕ → Ant → Killed → List ℕ
death_line round actor killed =
    (codes "round " +++ decimal round +++ codes ", " +++ ant_words (Some actor) +++ codes ": ") +++ ant_words killed.ant
    +++ codes " dies on " +++ place_words killed.place

-- the line of the score after it
abbrev pub score_line : ℕ → Ant → Score → List ℕ
score_line round actor score =
    (codes "round " +++ decimal round +++ codes ", " +++ ant_words (Some actor) +++ codes ": ") +++ codes "score: red "
    +++ decimal score.red +++ codes " black " +++ decimal score.black

-- the hill of a cell, if it belongs to one
abbrev pub hill_words : Option Colour → List ℕ
hill_words None = []
hill_words (Some colour) = codes ", " +++ colour_text colour +++ codes " hill"

-- the line of a particle that goes from the ant's cell to it, or back, with this verb
abbrev pub food_line : List ℕ → Seen → List ℕ
food_line verb seen =
    (codes "round " +++ decimal seen.round +++ codes ", " +++ ant_words (Some seen.ant) +++ codes ": ")
    +++ codes "state " +++ decimal seen.ant.state +++ verb +++ codes " food on "
    +++ place_words (Some seen.place) +++ hill_words seen.hill

-- the lines of such particles, if they are requested
abbrev pub food_lines : Bool → Seen → List (List ℕ)
food_lines false seen = []
food_lines true seen =
    (if takes_food seen then food_line (codes " takes") seen ∷ [] else [])
    ++ (if drops_food seen then food_line (codes " drops") seen ∷ [] else [])

-- the lines of what is seen of a turn, with those of food or without them
abbrev pub event_lines : Bool → Seen → List (List ℕ)
event_lines food seen =
    map (death_line seen.round seen.ant) seen.killed
    ++ (food_lines food seen ++ map (score_line seen.round seen.ant) (changed_score seen.before seen.after))

-- the ants that are killed in a turn, in the order of the checks
unfoldable pub deaths_in : Minds → ℕ → Moment → ℕ → List ℕ
deaths_in minds seed m t = (turn minds seed m.world m.place t).killed

-- the score after a turn, if it has changed
unfoldable pub scores_in : Minds → ℕ → Moment → ℕ → List Score
scores_in minds seed m t = changed_score (score_of m.world) (score_of (with_cells m.world (turn minds seed m.world m.place t).cells))

-- the lines of a turn of a round: those of the killed, and that of the score
unfoldable pub turn_lines : Minds → ℕ → ℕ → Moment → ℕ → List (List ℕ)
turn_lines minds seed round m t =
    map (death_words round m.world t) (deaths_in minds seed m t)
    ++ map (score_words round m.world t) (scores_in minds seed m t)

-- the text of all events of a game except those of food: the line of the seed, and the lines of all turns
unfoldable pub events_text : Minds → ℕ → World → ℕ → List ℕ
events_text minds seed w rounds = seed_text seed +++ flat_map (λ words. words +++ codes "\n") (told_in_rounds (turn_lines minds seed) minds seed (start_of w) rounds)
