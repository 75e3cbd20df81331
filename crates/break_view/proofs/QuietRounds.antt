-- Rounds without a stop, and a view from after them.
use Rattle.std.proofs.Common.{◌≡◌, ◌<◌, ◌≤◌, ℕ, Bool, true, false, List, Option, Some, None, nat_lt, refl, sym, ◌∙◌, arith, ltb-true, ltb-false}
use Rattle.cell_world.specs.World.{World}
use Rattle.ant_turn.specs.Minds.{Minds}
use Rattle.break_view.specs.declared.breaks.Break.{Break}
use Rattle.break_view.specs.declared.stop.Stop.{Stop}
use Rattle.break_view.specs.Stops.{met_at, IsTurn, IsFirstStop, EndsAt, end_of, first_stop}
use Rattle.break_view.specs.Texts.{view_of}
use Rattle.break_view.specs.Laws.{QuietRoundsArePassed}
use Rattle.break_view.proofs.FirstStops.{ends_are_found}

module _ (minds : Minds) (seed rounds from later : ℕ) (w : World) (items : List Break) (after : from ≤ later) (quiet : (r t : ℕ) → IsTurn w rounds from r t → r < later → met_at minds seed w items r t ≡ None) where
  -- a turn in a round from `later` on is one from `from` on
  turn_earlier : (r t : ℕ) → IsTurn w rounds later r t → IsTurn w rounds from r t
  turn_earlier r t turn = record { begun = turn.begun; reached = (let reached = turn.reached in omega (arith, reached, after)); played = turn.played; made = turn.made }

  -- the first stop is in none of these rounds
  stops_later : (stop : Stop) → IsFirstStop minds seed rounds from w items stop → later ≤ stop.round
  stops_later stop first = go (nat_lt stop.round later) refl
    where
      go : (b : Bool) → nat_lt stop.round later ≡ b → later ≤ stop.round
      go true e = let never : ◌≡◌ {A = Option ℕ} None (Some stop.which) = sym (quiet stop.round stop.id first.turn (ltb-true stop.round later e)) ∙ first.met in absurd (cc)
      go false e = ltb-false stop.round later e

  -- so the game ends from `later` on as it ends from `from` on
  ends_same : (stop : Option Stop) (end : World) → EndsAt minds seed rounds from w items stop end → EndsAt minds seed rounds later w items stop end
  ends_same None end ends = (λ r t turn. ends.0 r t (turn_earlier r t turn), ends.1)
  ends_same (Some stop) end ends =
      let first = ends.0 in (
        record {
          turn = record { begun = first.turn.begun; reached = stops_later stop first; played = first.turn.played; made = first.turn.made };
          met = first.met;
          none_before = λ r t turn before. first.none_before r t (turn_earlier r t turn) before;
        },
        ends.1,
      )

pub quiet_rounds_are_passed : QuietRoundsArePassed
unfolding view_of
quiet_rounds_are_passed minds seed rounds from later w items after quiet =
    ends_are_found.view minds seed rounds later w items (first_stop minds seed w items from rounds) (end_of minds seed rounds w (first_stop minds seed w items from rounds))
    (ends_same minds seed rounds from later w items after quiet (first_stop minds seed w items from rounds) (end_of minds seed rounds w (first_stop minds seed w items from rounds)) (ends_are_found.found minds seed rounds from w items))
