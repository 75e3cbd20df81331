-- A game whose stop hangs on the numbers that it draws, worked out: those of seed 12345 begin 7193, 2932.
use Rattle.std.proofs.Common.{◌≡◌, ℕ, List, [], ◌∷◌, Option, Some, None, inl, inr, refl, sym, ap, ◌∙◌, subst, arith}
use Rattle.hex_geometry.specs.Position.{same_pos}
use Rattle.cell_world.specs.declared.ant.Ant.{Ant}
use Rattle.cell_world.specs.declared.ant.Colour.TheVariants.{Red}
use Rattle.cell_world.specs.declared.kind.Kind.TheVariants.{Rock, RedHill}
use Rattle.cell_world.specs.Cell.{rock}
use Rattle.cell_world.specs.Grid.{cell_in, world_of}
use Rattle.cell_world.specs.Opening.{floor, opening}
use Rattle.cell_world.specs.World.{World, place_in, put_cell}
use Rattle.brain_read.specs.declared.instr.Instr.TheVariants.{Flip, Drop}
use Rattle.ant_random.specs.Stream.{drawn, random_at, state_at}
use Rattle.ant_turn.specs.Minds.{Minds, contest_minds}
use Rattle.ant_turn.specs.Rounds.{after_round, after_turn}
use Rattle.ant_turn.specs.Turn.{turn}
use Rattle.match_run.specs.Run.{world_after}
use Rattle.break_view.specs.declared.breaks.Break.{Break}
use Rattle.break_view.specs.declared.breaks.Break.TheVariants.{State}
use Rattle.break_view.specs.declared.stop.Stop.{Stop}
use Rattle.break_view.specs.Stops.{EndsAt, IsTurn, IsEarlier, IsFirstStop, met_at, world_at, world_in_round}
use Rattle.break_view.specs.Texts.{IsViewText, view_text}

-- one red ant between rocks
abbrev lone : World
lone = world_of (opening 3 3 (Rock ∷ Rock ∷ Rock ∷ Rock ∷ RedHill ∷ Rock ∷ Rock ∷ Rock ∷ Rock ∷ []))

-- it goes to state 3 where its first number leaves 0 modulo 7193 and the second leaves 0 modulo 2932, and to state 2
-- where one of them doesn't
abbrev drawing : Minds
drawing = contest_minds (Flip 7193 1 2 ∷ Flip 2932 3 2 ∷ Drop 2 ∷ Drop 3 ∷ []) (Drop 0 ∷ [])

abbrev breaks : List Break
breaks = State Red 3 ∷ State Red 2 ∷ []

abbrev drawn_stop : Stop
drawn_stop = record { round = 2; id = 0; which = 1 }

-- the state of an ant; 9 if there is none
abbrev state_of : Option Ant → ℕ
state_of None = 9
state_of (Some ant) = ant.state

-- the state of the ant of a world like that
abbrev state_in : World → ℕ
state_in w = state_of (w.cells (record { x = 1; y = 1 })).ant

-- 7193 brings it to state 1, in which no break holds, and then 2932 to state 3, of break 1; other numbers would bring
-- it to state 2, of break 2
seed_decides : (met_at drawing 12345 lone breaks 1 0 ≡ None) × (met_at drawing 12345 lone breaks 2 0 ≡ Some 1)
    × (state_in (world_at drawing 12345 lone 2 0) ≡ 3) × (state_in (world_after drawing 12345 lone 2) ≡ 3)
unfolding world_after world_in_round after_round after_turn turn place_in cell_in opening floor rock put_cell same_pos drawn random_at state_at
seed_decides = (refl, refl, refl, refl)

-- so the game stops there first
drawn_first : IsFirstStop drawing 12345 5 0 lone breaks drawn_stop
unfolding opening
drawn_first = record {
  turn = record { begun = omega arith; reached = omega arith; played = omega arith; made = omega arith };
  met = seed_decides.1;
  none_before = λ r t turn before. before_it r t turn before;
}
  where
    at_first : (r t : ℕ) → r ≡ 1 → t ≡ 0 → met_at drawing 12345 lone breaks r t ≡ None
    at_first r t round id = subst (λ (k : ℕ). met_at drawing 12345 lone breaks k t ≡ None) (sym round) (subst (λ (k : ℕ). met_at drawing 12345 lone breaks 1 k ≡ None) (sym id) seed_decides.0)

    before_it : (r t : ℕ) → IsTurn lone 5 0 r t → IsEarlier r t 2 0 → met_at drawing 12345 lone breaks r t ≡ None
    before_it r t turn (inl before) = at_first r t (let begun = turn.begun in omega (arith, begun, before)) (let made = turn.made in omega (arith, made))
    before_it r t turn (inr before) = absurd (let below = before.1 in omega (arith, below))

-- the view of that seed is of that stop, and leaves the ant in state 3; without a stop it leaves it there, too
drawn_view : IsViewText drawing 12345 5 0 lone breaks (view_text (world_at drawing 12345 lone 2 0) 12345 5 (Some drawn_stop))
drawn_view = record { stop = Some drawn_stop; end = world_at drawing 12345 lone 2 0; ends = (drawn_first, refl); view = refl }

drawn_at_stop : (end : World) → EndsAt drawing 12345 5 0 lone breaks (Some drawn_stop) end → state_in end ≡ 3
drawn_at_stop end ends = ap state_in ends.1 ∙ seed_decides.2

drawn_without_stop : (end : World) → EndsAt drawing 12345 2 0 lone [] None end → state_in end ≡ 3
drawn_without_stop end ends = ap state_in ends.1 ∙ seed_decides.3
