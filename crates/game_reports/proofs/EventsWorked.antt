-- Events, worked out.
use Rattle.std.proofs.Common.{◌≡◌, ℕ, Bool, true, false, List, [], ◌∷◌, Some, None, codes, refl, subst, arith}
use Rattle.std.specs.Prelude.{IsSome}
use Rattle.std.proofs.lemmas.Bool.{false≢true}
use Rattle.std.specs.Fmt.{digits}
use Rattle.std.specs.List.{Contains}
use Rattle.hex_geometry.proofs.Places.{at}
use Rattle.hex_geometry.specs.declared.direction.Dir.TheVariants.{East}
use Rattle.hex_geometry.specs.Direction.{directions}
use Rattle.hex_geometry.specs.Neighbourhood.{adjacent_pos, neighbours_of}
use Rattle.hex_geometry.specs.Position.{same_pos}
use Rattle.list_lemmas.proofs.Elements.{Contains-none}
use Rattle.ant_base.specs.Layout.{◌+++◌}
use Rattle.ant_random.specs.Stream.{drawn, random_at, state_at}
use Rattle.ant_turn.specs.Deaths.{dead_at, dead_in}
use Rattle.ant_turn.specs.Kills.{check_at, is_surrounded, killed_at, places_around}
use Rattle.ant_turn.specs.Minds.{Minds, contest_minds}
use Rattle.ant_turn.specs.Rounds.{after_round, after_turn, start_of}
use Rattle.ant_turn.specs.Sheet.{contest}
use Rattle.ant_turn.specs.Turn.{stepped, turn}
use Rattle.brain_read.specs.declared.instr.Instr.{Instr}
use Rattle.brain_read.specs.declared.instr.Instr.TheVariants.{PickUp, Drop, Move, Flip}
use Rattle.cell_world.specs.declared.ant.Colour.{Colour}
use Rattle.cell_world.specs.declared.ant.Colour.TheVariants.{Red, Black}
use Rattle.cell_world.specs.declared.kind.Kind.{Kind}
use Rattle.cell_world.specs.declared.kind.Kind.TheVariants.{Rock, Clear, RedHill, BlackHill}
use Rattle.cell_world.specs.Cell.{rock}
use Rattle.cell_world.specs.Grid.{cell_in, world_of}
use Rattle.cell_world.specs.Opening.{floor, new_ant, opening}
use Rattle.cell_world.specs.Score.{hill_food_of, score_of}
use Rattle.cell_world.specs.World.{World, place_in, put, put_cell}
use Rattle.cell_world.proofs.OpeningWorked.{one_hill}
use Rattle.dump_print.specs.Texts.{seed_text}
use Rattle.match_run.proofs.RunWorked.{nobody, stone}
use Rattle.match_run.specs.Seen.{ahead_of, ant_in, death_place}
use Rattle.game_reports.specs.Events.{death_words, deaths_in, events_text, score_words, scores_in, turn_lines}
use Rattle.game_reports.specs.Laws.{AreTheDead}

-- seven by six cells, without ids the ants are
--     . . . . .
--      . . - # .
--     - . + - #
--      + . - - #
abbrev pub ambush : List Kind
ambush =
    Rock ∷ Rock ∷ Rock ∷ Rock ∷ Rock ∷ Rock ∷ Rock
    ∷ Rock ∷ Clear ∷ Clear ∷ Clear ∷ Clear ∷ Clear ∷ Rock
    ∷ Rock ∷ Clear ∷ Clear ∷ BlackHill ∷ Rock ∷ Clear ∷ Rock
    ∷ Rock ∷ BlackHill ∷ Clear ∷ RedHill ∷ BlackHill ∷ Rock ∷ Rock
    ∷ Rock ∷ RedHill ∷ Clear ∷ BlackHill ∷ BlackHill ∷ Rock ∷ Rock
    ∷ Rock ∷ Rock ∷ Rock ∷ Rock ∷ Rock ∷ Rock ∷ Rock ∷ []

-- the black ant that can move steps beside the red one of the next hill, and is its fifth foe
pub ambush_told : events_text (contest_minds (Flip 2 0 0 ∷ []) (Move 0 0 ∷ [])) 12345 (world_of (opening 7 6 ambush)) 1 ≡
    codes "random seed: 12345\n"
    +++ codes "round 1, black ant 1: red ant 2 dies on (3, 3)\n"
    +++ codes "round 1, black ant 1: score: red 3 black 0\n"
unfolding events_text turn_lines deaths_in scores_in death_words score_words death_place ant_in ahead_of seed_text digits after_round after_turn turn stepped check_at is_surrounded killed_at places_around neighbours_of adjacent_pos directions place_in cell_in opening floor rock put_cell same_pos score_of hill_food_of drawn random_at state_at
ambush_told = refl

-- seven by six cells, without ids the ants are
--     . + + . .
--    . + - + +
--     . + . - +
--    . . . + .
-- and a red one steps between two black ones, which four red ants surround already
abbrev two_beset : World
two_beset =
    world_of
    (opening 7 6
    (Rock ∷ Rock ∷ Rock ∷ Rock ∷ Rock ∷ Rock ∷ Rock
    ∷ Rock ∷ Clear ∷ RedHill ∷ RedHill ∷ Clear ∷ Clear ∷ Rock
    ∷ Rock ∷ Clear ∷ RedHill ∷ BlackHill ∷ RedHill ∷ RedHill ∷ Rock
    ∷ Rock ∷ Clear ∷ RedHill ∷ Clear ∷ BlackHill ∷ RedHill ∷ Rock
    ∷ Rock ∷ Clear ∷ Clear ∷ Clear ∷ RedHill ∷ Clear ∷ Rock
    ∷ Rock ∷ Rock ∷ Rock ∷ Rock ∷ Rock ∷ Rock ∷ Rock ∷ []))

abbrev pub stepping : Minds
stepping = contest_minds (Move 0 0 ∷ []) (Move 0 0 ∷ [])

-- both die, in the order of the checks, which isn't that of ids: the one to the east first; and each leaves its corpse
-- on its hill
two_die : turn_lines stepping 0 7 (start_of two_beset) 6 ≡
    codes "round 7, red ant 6: black ant 7 dies on (4, 3)"
    ∷ codes "round 7, red ant 6: black ant 3 dies on (3, 2)"
    ∷ codes "round 7, red ant 6: score: red 0 black 6"
    ∷ []
unfolding turn_lines deaths_in scores_in death_words score_words death_place ant_in ahead_of digits turn stepped check_at is_surrounded killed_at places_around neighbours_of adjacent_pos directions place_in cell_in opening floor rock put_cell same_pos score_of hill_food_of
two_die = refl

-- both are noted as they stood; red ant 6 is the fifth foe of the first on its new cell alone, and of neither where six
-- must surround
two_noted :
    (dead_in stepping two_beset 6 ≡ Some (record { place = at 4 3; ant = new_ant Black 7 }) ∷ Some (record { place = at 3 2; ant = new_ant Black 3 }) ∷ [])
    × (dead_in (record stepping { sheet = record contest { surround = 6 } }) two_beset 6 ≡ [])
unfolding dead_in dead_at stepped check_at is_surrounded places_around neighbours_of adjacent_pos directions place_in cell_in opening floor rock put_cell same_pos
two_noted = (refl, refl)

-- the particle that one of them carried falls on the hill with its corpse
abbrev pub one_laden : World
one_laden = put two_beset (at 3 2) (record floor { hill = Some Black; ant = Some (record { id = 3; colour = Black; state = 0; resting = 5; facing = East; laden = true }) })

laden_dies : turn_lines stepping 0 7 (start_of one_laden) 6 ≡
    codes "round 7, red ant 6: black ant 7 dies on (4, 3)"
    ∷ codes "round 7, red ant 6: black ant 3 dies on (3, 2)"
    ∷ codes "round 7, red ant 6: score: red 0 black 7"
    ∷ []
unfolding turn_lines deaths_in scores_in death_words score_words death_place ant_in ahead_of digits turn stepped check_at is_surrounded killed_at places_around neighbours_of adjacent_pos directions place_in cell_in opening floor rock put_cell same_pos score_of hill_food_of
laden_dies = refl

-- six by six cells of which the inner ones hold these
abbrev within : Kind → Kind → Kind → Kind → Kind → Kind → Kind → Kind → Kind → Kind → Kind → Kind → Kind → Kind → Kind → Kind → World
within a b c d e f g h i j k l m n o p =
    world_of
    (opening 6 6
    (Rock ∷ Rock ∷ Rock ∷ Rock ∷ Rock ∷ Rock
    ∷ Rock ∷ a ∷ b ∷ c ∷ d ∷ Rock
    ∷ Rock ∷ e ∷ f ∷ g ∷ h ∷ Rock
    ∷ Rock ∷ i ∷ j ∷ k ∷ l ∷ Rock
    ∷ Rock ∷ m ∷ n ∷ o ∷ p ∷ Rock
    ∷ Rock ∷ Rock ∷ Rock ∷ Rock ∷ Rock ∷ Rock ∷ []))

-- without ids the ants are     - - . .      + . - .     - - . . and the red one steps into the middle of five foes: it
-- dies there, on its new cell, which is not a hill
abbrev pub own_death : World
own_death = within BlackHill BlackHill Clear Clear RedHill Clear BlackHill Clear BlackHill BlackHill Clear Clear Clear Clear Clear Clear

walks_into_death : turn_lines stepping 0 1 (start_of own_death) 2 ≡ codes "round 1, red ant 2: red ant 2 dies on (2, 2)" ∷ []
unfolding turn_lines deaths_in scores_in death_words score_words death_place ant_in ahead_of digits turn stepped check_at is_surrounded killed_at places_around neighbours_of adjacent_pos directions place_in cell_in opening floor rock put_cell same_pos score_of hill_food_of
walks_into_death = refl

-- and is noted as it stands then: in the next state, and about to rest
own_noted : dead_in stepping own_death 2 ≡ Some (record { place = at 2 2; ant = record (new_ant Red 2) { resting = 14 } }) ∷ []
unfolding dead_in dead_at stepped check_at is_surrounded places_around neighbours_of adjacent_pos directions place_in cell_in opening floor rock put_cell same_pos
own_noted = refl

-- the one clear cell of a world, of this hill and with this much food, on which a red ant stands that is laden or not
abbrev pub alone_on : Colour → ℕ → Bool → World
alone_on hill food laden =
    put (world_of (opening 3 3 one_hill)) (at 1 1) (record floor { hill = Some hill; food = food; ant = Some (record { id = 0; colour = Red; state = 0; resting = 0; facing = East; laden = laden }) })

-- the report of its turn in round 4
abbrev lone_lines : Instr → World → List (List ℕ)
lone_lines instruction w = turn_lines (contest_minds (instruction ∷ []) (Drop 0 ∷ [])) 12345 4 (start_of w) 0

-- a particle that is dropped on a hill or taken from one changes that side's score, even on a foe's hill
score_told : (lone_lines (Drop 0) (alone_on Red 2 true) ≡ codes "round 4, red ant 0: score: red 3 black 0" ∷ [])
    × (lone_lines (Drop 0) (alone_on Black 0 true) ≡ codes "round 4, red ant 0: score: red 0 black 1" ∷ [])
    × (lone_lines (PickUp 0 0) (alone_on Red 2 false) ≡ codes "round 4, red ant 0: score: red 1 black 0" ∷ [])
    × (lone_lines (PickUp 0 0) (alone_on Black 9 false) ≡ codes "round 4, red ant 0: score: red 0 black 8" ∷ [])
unfolding turn_lines deaths_in scores_in score_words ant_in digits turn place_in cell_in opening floor rock put_cell same_pos score_of hill_food_of
score_told = (refl, refl, refl, refl)

-- a Drop and a PickUp that do nothing tell nothing, nor does a Move that is blocked
nothing_told : (lone_lines (Drop 0) (alone_on Red 2 false) ≡ []) × (lone_lines (PickUp 0 0) (alone_on Red 2 true) ≡ []) × (lone_lines (PickUp 0 0) (alone_on Red 0 false) ≡ []) × (lone_lines (Move 0 0) (alone_on Red 2 true) ≡ [])
unfolding turn_lines deaths_in scores_in score_words ant_in digits turn adjacent_pos place_in cell_in opening floor rock put_cell same_pos score_of hill_food_of
nothing_told = (refl, refl, refl, refl)

-- a game of no rounds, and one without ants, print the seed alone
seed_alone : (events_text stepping 12345 two_beset 0 ≡ codes "random seed: 12345\n") × (events_text nobody 12345 stone 3 ≡ codes "random seed: 12345\n")
unfolding events_text seed_text digits after_round
seed_alone = (refl, refl)

-- an ant that lives at the end isn't among the dead, and one that lives no more is, and once
never_alive : (w : World) (u : ℕ) (deaths : List ℕ) → AreTheDead w w deaths → Contains deaths u → ⊥
never_alive w u deaths are told = false≢true (subst IsSome (are.gone u told) (are.lived u told))

never_untold : (old new : World) (u : ℕ) → IsSome (place_in old u) → place_in new u ≡ None → AreTheDead old new [] → ⊥
never_untold old new u lived gone are = Contains-none u (are.all u lived gone)

never_twice : (old new : World) (u : ℕ) → AreTheDead old new (u ∷ u ∷ []) → ⊥
never_twice old new u are = are.once 0 1 u (omega arith) (omega arith) refl
