-- Each law of minimised brains, used on the brain of ten states and its eight: a law that says less, or that asks for
-- more, doesn't give these.
use Rattle.std.proofs.Common.{◌≡◌, ℕ, ◌<◌, ◌≤◌, List, Option, Some, length, map, arith}
use Rattle.ant_turn.specs.Minds.{Minds, contest_minds}
use Rattle.ant_turn.specs.Renumber.{redirected, renumbered_moment, state_number, with_mind}
use Rattle.brain_minimise.specs.Existence.{HasMinimised}
use Rattle.brain_minimise.specs.Laws.{AreDifferent, DifferentStay, FewestStates, Merges, OneMinimised, TwiceIsOnce, kept_before, left_of}
use Rattle.brain_minimise.specs.Match.{DiffersInStates, DumpsAlike, PlaysAlike, ScoresAlike, game}
use Rattle.brain_minimise.specs.Minimised.{IsMinimised, new_number}
use Rattle.brain_read.specs.Soundness.{IsBrain}
use Rattle.brain_read.specs.declared.instr.Instr.{Instr}
use Rattle.cell_world.specs.Score.{score_of}
use Rattle.cell_world.specs.declared.ant.Colour.TheVariants.{Red}
use Rattle.cell_world.specs.declared.kind.Kind.{Kind}
use Rattle.brain_minimise.proofs.WorkedTen.{eight, numbers, ten, ten_minimised}

-- the ten states become no other brain, and by no other map
one_minimised_used : OneMinimised → (other : List Instr) (others : List (Option ℕ)) → IsMinimised ten other others → (other ≡ eight) × (others ≡ numbers)
one_minimised_used law other others is = law ten other eight others numbers is ten_minimised

has_minimised_used : HasMinimised → IsBrain ten → (new : List Instr) × (others : List (Option ℕ)) × IsMinimised ten new others
has_minimised_used law is = law ten is

-- the eight stay as they are, the last of them too
twice_is_once_used : TwiceIsOnce → (again : List Instr) (others : List (Option ℕ)) → IsMinimised eight again others → (again ≡ eight) × (new_number others 7 ≡ Some 7)
twice_is_once_used law again others is = let it = law ten eight again numbers others ten_minimised is in (it.0, it.1 7 (let last : 7 < 8 = omega arith in last))

-- no merging leaves fewer than eight states
fewest_states_used : FewestStates → (other : List Instr) (others : List (Option ℕ)) → Merges ten other others → 8 ≤ length other
fewest_states_used law other others merges = law ten eight other numbers others ten_minimised merges

-- the eight, of which no two are equivalent and all can be reached, keep their text
different_stay_used : DifferentStay → (new : List Instr) (others : List (Option ℕ)) → IsMinimised eight new others → AreDifferent eight
    → (new ≡ eight) × (new ≡ map (redirected (state_number (new_number others))) (left_of others eight)) × (new_number others 7 ≡ Some 7 → 7 ≡ kept_before others 7)
different_stay_used law new others is differ =
    let keeps = law eight new others is differ in
    (keeps.whole (λ state below. ten_minimised.reached state below), keeps.text, λ has. keeps.order 7 7 has)

-- both sides play by the ten states
abbrev tens : Minds
tens = contest_minds ten ten

-- by the eight in red's place the game is the same, with the same score and the same dumps, except for the states of
-- red's ants
plays_alike_used : PlaysAlike → (kinds : List Kind) → game (with_mind tens Red eight) 12345 7 6 kinds 5 ≡ renumbered_moment (new_number numbers) Red (game tens 12345 7 6 kinds 5)
plays_alike_used law kinds = law tens Red eight numbers 12345 7 6 kinds 5 ten_minimised

scores_alike_used : ScoresAlike → (kinds : List Kind) → score_of (game (with_mind tens Red eight) 12345 7 6 kinds 5).world ≡ score_of (game tens 12345 7 6 kinds 5).world
scores_alike_used law kinds = law tens Red eight numbers 12345 7 6 kinds 5 ten_minimised

dumps_alike_used : DumpsAlike → (kinds : List Kind) → DiffersInStates Red (game tens 12345 7 6 kinds 5).world (game (with_mind tens Red eight) 12345 7 6 kinds 5).world
dumps_alike_used law kinds = law tens Red eight numbers 12345 7 6 kinds 5 ten_minimised
