-- The turn of an id, by where its ant is and what it does.
use Rattle.std.proofs.Common.{◌≡◌, ℕ, suc, ◌+◌, Some, None, ◌∙◌, ap, arith}
use Rattle.std.specs.Prelude.{slice_get}
use Rattle.std.proofs.lemmas.Option.{get_or_from_slice_get}
use Rattle.hex_geometry.specs.declared.position.Pos.{Pos}
use Rattle.cell_world.specs.declared.ant.Ant.{Ant}
use Rattle.cell_world.specs.World.{World, place_in}
use Rattle.brain_read.specs.declared.instr.Instr.{Instr}
use Rattle.brain_read.specs.declared.instr.Instr.TheVariants.{Drop}
use Rattle.ant_turn.specs.Deaths.{dead_after, dead_by, dead_from, dead_in, dead_with}
use Rattle.ant_turn.specs.Minds.{Minds, mind_of}
use Rattle.ant_turn.specs.Turn.{idle, ant_becomes, execute, acts, turn_at, turn_from, turn}

-- nothing happens in the turn of an id that has no place
pub turn-dead : (minds : Minds) (seed : ℕ) (w : World) (place t : ℕ) → place_in w t ≡ None → turn minds seed w place t ≡ idle w.cells
unfolding turn
turn-dead minds seed w place t dead = ap (turn_from minds seed w.cells place) dead

-- the turn of an id is that of the ant at its place
pub turn-acts : (minds : Minds) (seed : ℕ) (w : World) (place t : ℕ) (p : Pos) (ant : Ant) → place_in w t ≡ Some p → (w.cells p).ant ≡ Some ant → turn minds seed w place t ≡ acts ant.resting minds seed w.cells place p ant
unfolding turn
turn-acts minds seed w place t p ant found is = ap (turn_from minds seed w.cells place) found ∙ ap (turn_at minds seed w.cells place p) is

-- the turn of an ant that rests
pub turn-rests : (minds : Minds) (seed : ℕ) (w : World) (place t : ℕ) (p : Pos) (ant : Ant) (left : ℕ) → place_in w t ≡ Some p → (w.cells p).ant ≡ Some ant → ant.resting ≡ left + 1 → turn minds seed w place t ≡ ant_becomes w.cells p (record ant { resting = left })
turn-rests minds seed w place t p ant left found is tired =
    let more : ant.resting ≡ suc left = omega arith in
    turn-acts minds seed w place t p ant found is ∙ ap (λ n. acts n minds seed w.cells place p ant) more

-- the turn of an ant that doesn't rest
pub turn-executes : (minds : Minds) (seed : ℕ) (w : World) (place t : ℕ) (p : Pos) (ant : Ant) (instruction : Instr) → place_in w t ≡ Some p → (w.cells p).ant ≡ Some ant → ant.resting ≡ 0 → slice_get (mind_of minds ant.colour) ant.state ≡ Some instruction →
    turn minds seed w place t ≡ execute minds.sheet seed w.cells place p ant instruction
turn-executes minds seed w place t p ant instruction found is ready at =
    turn-acts minds seed w place t p ant found is
    ∙ ap (λ n. acts n minds seed w.cells place p ant) ready
    ∙ ap (execute minds.sheet seed w.cells place p ant) (get_or_from_slice_get (mind_of minds ant.colour) ant.state instruction (Drop 0) at)

-- who is killed in the turn of an id is killed by the ant at its place
pub dead_in-acts : (minds : Minds) (w : World) (t : ℕ) (p : Pos) (ant : Ant) → place_in w t ≡ Some p → (w.cells p).ant ≡ Some ant → dead_in minds w t ≡ dead_after ant.resting minds w.cells p ant
unfolding dead_in
dead_in-acts minds w t p ant found is = ap (dead_with minds w.cells) found ∙ ap (dead_from minds w.cells p) is

-- by one that doesn't rest whom its instruction kills
pub dead_in-executes : (minds : Minds) (w : World) (t : ℕ) (p : Pos) (ant : Ant) (instruction : Instr) → place_in w t ≡ Some p → (w.cells p).ant ≡ Some ant → ant.resting ≡ 0 → slice_get (mind_of minds ant.colour) ant.state ≡ Some instruction →
    dead_in minds w t ≡ dead_by minds.sheet w.cells p ant instruction
dead_in-executes minds w t p ant instruction found is ready at =
    dead_in-acts minds w t p ant found is
    ∙ ap (λ n. dead_after n minds w.cells p ant) ready
    ∙ ap (dead_by minds.sheet w.cells p ant) (get_or_from_slice_get (mind_of minds ant.colour) ant.state instruction (Drop 0) at)
