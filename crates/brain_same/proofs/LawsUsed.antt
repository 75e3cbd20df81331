-- Each law of brains that are the same, used on small brains: a law that says less, or that asks for more, doesn't give
-- these.
use Rattle.std.proofs.Common.{◌≡◌, ℕ, true, List, [], ◌∷◌, Some, length, refl}
use Rattle.hex_geometry.specs.declared.direction.Side.TheVariants.{Left}
use Rattle.ant_turn.specs.Minds.{Minds, contest_minds}
use Rattle.ant_turn.specs.Renumber.{with_mind}
use Rattle.brain_minimise.proofs.WorkedTen.{eight, numbers, ten, ten_minimised}
use Rattle.brain_minimise.specs.Match.{DiffersInStates}
use Rattle.brain_read.specs.Soundness.{IsBrain}
use Rattle.brain_read.specs.declared.instr.Instr.TheVariants.{Drop, Move, Turn}
use Rattle.cell_world.specs.Score.{score_of}
use Rattle.cell_world.specs.declared.ant.Colour.TheVariants.{Red}
use Rattle.cell_world.specs.declared.kind.Kind.{Kind}
use Rattle.brain_same.specs.declared.comparison.Comparison.{Comparison}
use Rattle.brain_same.specs.declared.comparison.Comparison.TheVariants.{Different}
use Rattle.brain_same.specs.declared.way.Step.{Step}
use Rattle.brain_same.specs.Answers.{next_by}
use Rattle.brain_same.specs.Difference.{AreSame, IsComparison, IsFirstDifference, TellsApart}
use Rattle.brain_same.specs.Difference.IsComparison.{IsDifferent}
use Rattle.brain_same.specs.Games.{BothPlaySame, PlaysSame, game, without_states}
use Rattle.brain_same.specs.Laws.{HasComparison, HasWay, MinimisedIsSame, OneComparison, OneWay, SameIsEquivalence, SameIsNotApart, WayIsComparison, WayLeads}
use Rattle.brain_same.specs.Way.{IsWayComparison, LeadsOn, way_by}
use Rattle.brain_same.specs.Way.IsWayComparison.{ByWay}
use Rattle.brain_same.proofs.SameLaws.{one_comparison}
use Rattle.brain_same.proofs.Worked.{crossed, met_apart, none_before_met, rings, straight, three_ring, two_ring}
use Rattle.brain_same.proofs.WorkedWays.{far_left, far_right, step}

-- a ring is the same as itself, as the other one the other way round, and by way of that as itself
same_is_equivalence_used : SameIsEquivalence → IsBrain two_ring → AreSame two_ring two_ring × AreSame three_ring two_ring × AreSame two_ring two_ring
same_is_equivalence_used law is = (law.itself two_ring is, law.turned two_ring three_ring rings, law.through two_ring three_ring two_ring rings (law.turned two_ring three_ring rings))

-- ten states are the same as their eight
minimised_is_same_used : MinimisedIsSame → AreSame ten eight
minimised_is_same_used law = law ten eight numbers ten_minimised

-- no answer distinguishes the rings
same_is_not_apart_used : SameIsNotApart → (a b : ℕ) → ¬ TellsApart two_ring three_ring (true ∷ []) a b
same_is_not_apart_used law a b apart = law two_ring three_ring rings (true ∷ []) a b apart

-- the crossed brain first differs from the straight one after the met answer, in states 1 and 2
abbrev met_differs : IsFirstDifference straight crossed 1 1 2
met_differs = record { answers = true ∷ []; count = refl; apart = met_apart; least = none_before_met }

abbrev different : Comparison
different = Different 1 (record { state = 1; instruction = Turn Left 0 }) (record { state = 2; instruction = Drop 0 })

compared : IsComparison straight crossed different
compared = IsDifferent 1 1 2 met_differs

by_way : IsWayComparison straight crossed different (step 0 (Move 1 2) 0 (Move 2 1) true ∷ [])
by_way = ByWay 1 1 2 met_differs

-- they come to nothing else
one_comparison_used : OneComparison → (other : Comparison) → IsComparison straight crossed other → other ≡ different
one_comparison_used law other is = law straight crossed other different is compared

has_comparison_used : HasComparison → IsBrain two_ring → IsBrain three_ring → (comparison : Comparison) × IsComparison two_ring three_ring comparison
has_comparison_used law one other = law two_ring three_ring one other

-- nor with the way, which has one step
way_is_comparison_used : WayIsComparison → (comparison : Comparison) (steps : List Step) → IsWayComparison straight crossed comparison steps → comparison ≡ different
way_is_comparison_used law comparison steps is = one_comparison straight crossed comparison different (law straight crossed comparison steps is) compared

one_way_used : OneWay → (comparison : Comparison) (steps : List Step) → IsWayComparison straight crossed comparison steps → (comparison ≡ different) × (steps ≡ step 0 (Move 1 2) 0 (Move 2 1) true ∷ [])
one_way_used law comparison steps is = law straight crossed comparison different steps (step 0 (Move 1 2) 0 (Move 2 1) true ∷ []) is by_way

has_way_used : HasWay → IsBrain two_ring → IsBrain three_ring → (comparison : Comparison) × (steps : List Step) × IsWayComparison two_ring three_ring comparison steps
has_way_used law one other = law two_ring three_ring one other

-- the one step is from the states 0, and leads to 1 and 2; and where brains first differ after five answers, the way
-- has five steps
one_step : LeadsOn straight crossed (step 0 (Move 1 2) 0 (Move 2 1) true ∷ []) 0 0 1 2 →
    (next : ℕ) × (other : ℕ) × (next_by (Move 1 2) true ≡ Some next) × (next_by (Move 2 1) true ≡ Some other) × (next ≡ 1) × (other ≡ 2)
one_step (next, other, is, there) = (next, other, is.leads, is.leads_too, there.0, there.1)

way_leads_used : WayLeads →
    ((next : ℕ) × (other : ℕ) × (next_by (Move 1 2) true ≡ Some next) × (next_by (Move 2 1) true ≡ Some other) × (next ≡ 1) × (other ≡ 2))
    × ((difference : IsFirstDifference far_left far_right 5 6 5) → length (way_by far_left far_right difference.answers 0 0) ≡ 5)
way_leads_used law = (one_step (law straight crossed 1 1 2 met_differs).1, λ difference. (law far_left far_right 5 6 5 difference).0)

-- both sides play by the ring of two
abbrev ringed : Minds
ringed = contest_minds two_ring two_ring

-- by the ring of three in red's place the game is the same except for the states of red's ants
plays_same_used : PlaysSame → (kinds : List Kind) →
    DiffersInStates Red (game ringed 12345 7 6 kinds 5).world (game (with_mind ringed Red three_ring) 12345 7 6 kinds 5).world
    × ((game (with_mind ringed Red three_ring) 12345 7 6 kinds 5).place ≡ (game ringed 12345 7 6 kinds 5).place)
    × (score_of (game (with_mind ringed Red three_ring) 12345 7 6 kinds 5).world ≡ score_of (game ringed 12345 7 6 kinds 5).world)
plays_same_used law kinds = let same = law ringed Red three_ring 12345 7 6 kinds 5 rings in (same.world, same.place, same.score)

-- and on both sides, except for the states of all ants
both_play_same_used : BothPlaySame → (kinds : List Kind) →
    (without_states (game (contest_minds three_ring three_ring) 12345 7 6 kinds 5).world ≡ without_states (game ringed 12345 7 6 kinds 5).world)
    × ((game (contest_minds three_ring three_ring) 12345 7 6 kinds 5).place ≡ (game ringed 12345 7 6 kinds 5).place)
    × (score_of (game (contest_minds three_ring three_ring) 12345 7 6 kinds 5).world ≡ score_of (game ringed 12345 7 6 kinds 5).world)
both_play_same_used law kinds = let same = law ringed three_ring three_ring 12345 7 6 kinds 5 rings rings in (same.world, same.place, same.score)
