-- Each law of what turns leave as it is, used in the world of three hill cells: a weaker law would not do.
use Rattle.std.proofs.Common.{◌≡◌, ◌≢◌, ◌⊎◌, ℕ, ◌+◌, false, Some, None, refl}
use Rattle.std.specs.List.{Contains}
use Rattle.hex_geometry.proofs.Places.{at}
use Rattle.hex_geometry.specs.Neighbourhood.{adjacent_pos}
use Rattle.hex_geometry.specs.Position.{same_pos}
use Rattle.hex_geometry.specs.declared.position.Pos.{Pos}
use Rattle.cell_world.specs.declared.ant.Ant.{Ant}
use Rattle.cell_world.specs.declared.ant.Colour.TheVariants.{Red, Black}
use Rattle.cell_world.specs.Cell.{holds_id, rock}
use Rattle.cell_world.specs.Grid.{cell_in}
use Rattle.cell_world.specs.Opening.{floor, hill_cell, new_ant, opening}
use Rattle.cell_world.specs.World.{World, place_in, put, put_cell, with_cells}
use Rattle.ant_turn.specs.Kills.{places_around}
use Rattle.ant_turn.specs.Minds.{Minds}
use Rattle.ant_turn.specs.QuietLaws.{IdleTurns, TurnsAreNear, TurnsFollow}
use Rattle.ant_turn.specs.Rounds.{Moment, after_round, after_rounds, after_turn, after_turns, start_of}
use Rattle.ant_turn.specs.Turn.{turn}
use Rattle.ant_turn.proofs.LawsUsed.{start, start_valid}

-- there is no ant 7, and where ant 0 rests for this many turns
dead_is_nowhere : place_in start 7 ≡ None
unfolding place_in cell_in opening rock floor
dead_is_nowhere = refl

abbrev resting : ℕ → World
resting turns = put start (at 1 1) (record (hill_cell Red 0) { ant = Some (record (new_ant Red 0) { resting = turns }) })

resting_stands : place_in (resting 1) 0 ≡ Some (at 1 1)
unfolding place_in put_cell same_pos cell_in opening rock floor
resting_stands = refl

resting_is : ((resting 1).cells (at 1 1)).ant ≡ Some (record (new_ant Red 0) { resting = 1 })
unfolding put_cell same_pos
resting_is = refl

-- a dead ant's turn, and one of an ant that rests for the last time
pub idle_turns_used : IdleTurns → (minds : Minds) (seed : ℕ) →
    (after_turn minds seed (start_of start) 7 ≡ start_of start)
    × (after_turn minds seed (start_of (resting 1)) 0
    ≡ start_of (put (resting 1) (at 1 1) (record ((resting 1).cells (at 1 1)) { ant = Some (record (new_ant Red 0) { resting = 0 }) })))
idle_turns_used law minds seed = (
  law.dead minds seed (start_of start) 7 dead_is_nowhere,
  law.resting minds seed (start_of (resting 1)) 0 (at 1 1) (record (new_ant Red 0) { resting = 1 }) 0 resting_stands resting_is refl,
)

-- the turn of ant 4 and then those from 5 on are the turns from 4 on; so it is with a round
pub turns_follow_used : TurnsFollow → (minds : Minds) (seed : ℕ) (m : Moment) (more : ℕ) →
    (after_turns minds seed (after_turn minds seed m 4) 5 more ≡ after_turns minds seed m 4 (1 + more))
    × (after_rounds minds seed (after_round minds seed m) more ≡ after_rounds minds seed m (1 + more))
turns_follow_used law minds seed m more = (law.turns minds seed m 4 1 more, law.rounds minds seed m 1 more)

-- the black ant stands on (3, 1) and faces (4, 1)
black_stands : place_in start 2 ≡ Some (at 3 1)
unfolding place_in cell_in opening rock floor
black_stands = refl

black_is : (start.cells (at 3 1)).ant ≡ Some (new_ant Black 2)
unfolding cell_in opening rock floor
black_is = refl

-- what its turn leaves as it is
pub turns_are_near_used : TurnsAreNear → (minds : Minds) (seed : ℕ) →
    let outcome = turn minds seed start 0 2 in
    ((q : Pos) → q ≢ at 3 1 → (Contains (places_around (at 4 1)) q → ⊥) → outcome.cells q ≡ start.cells q)
    × ((q : Pos) → q ≢ at 3 1 → q ≢ at 4 1 → ((u : ℕ) → Contains outcome.killed u → holds_id u (start.cells q) ≡ false) → outcome.cells q ≡ start.cells q)
    × ((left : Ant) (q : Pos) → q ≢ at 3 1 → (outcome.cells (at 3 1)).ant ≡ Some left → outcome.cells q ≡ start.cells q)
    × ((q : Pos) → place_in (with_cells start outcome.cells) 2 ≡ Some q → (q ≡ at 3 1) ⊎ (q ≡ at 4 1))
    × ((q : Pos) → (outcome.cells q).red ≡ (start.cells q).red)
    × ((q : Pos) → q ≢ at 3 1 → (outcome.cells q).black ≡ (start.cells q).black)
unfolding adjacent_pos
turns_are_near_used law minds seed = (
  (λ q. law.cells minds seed start 0 2 (at 3 1) (new_ant Black 2) q black_stands black_is),
  (λ q. law.spared minds seed start 0 2 (at 3 1) (new_ant Black 2) q black_stands black_is),
  (λ left q. law.stayed minds seed start 0 2 (at 3 1) (new_ant Black 2) left q black_stands black_is),
  (λ q. law.own minds seed start 0 2 (at 3 1) (new_ant Black 2) q start_valid black_stands black_is),
  (λ q. law.marks minds seed start 0 2 (at 3 1) (new_ant Black 2) Red q black_stands black_is (λ same here. absurd (cc))),
  (λ q other. law.marks minds seed start 0 2 (at 3 1) (new_ant Black 2) Black q black_stands black_is (λ same here. other here)),
)
