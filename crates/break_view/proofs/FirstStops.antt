-- Searching the turns of a game in order finds its first stop.
use Rattle.std.proofs.Common.{◌≡◌, ◌<◌, ◌≤◌, ℕ, zero, suc, Bool, true, false, List, Option, Some, None, option_map, inl, inr, cond, nat_le, nat_lt, refl, sym, ap₂, ◌∙◌, subst, arith, leb-true, leb-false, ltb-true, ltb-false}
use Rattle.std.specs.Option.{option_or}
use Rattle.cell_world.specs.World.{World}
use Rattle.ant_turn.specs.Minds.{Minds}
use Rattle.break_view.specs.declared.breaks.Break.{Break}
use Rattle.break_view.specs.declared.stop.Stop.{Stop}
use Rattle.break_view.specs.Stops.{met_at, IsTurn, IsEarlier, IsFirstStop, HasNoStop, EndsAt, first_in_round, first_stop, end_of}
use Rattle.break_view.specs.Texts.{view_of, view_text}
use Rattle.break_view.specs.Laws.{EndsAreFound}
use Rattle.break_view.proofs.ViewLaws.{later_rounds_add_nothing, one_first_stop}

module _ (minds : Minds) (seed : ℕ) (w : World) (items : List Break) where
  -- the first stop below id n in round r
  record IsFirstBelow (r n : ℕ) (stop : Stop) : Type 0 where
    round : stop.round ≡ r
    below : stop.id < n
    met : met_at minds seed w items r stop.id ≡ Some stop.which
    quiet : (t : ℕ) → t < stop.id → met_at minds seed w items r t ≡ None

  -- what searching the ids below n in round r gave
  abbrev InRound : ℕ → ℕ → Option Stop → Type 0
  InRound r n None = (t : ℕ) → t < n → met_at minds seed w items r t ≡ None
  InRound r n (Some stop) = IsFirstBelow r n stop

  in_round_more : (r n : ℕ) (o : Option Stop) → InRound r n o → (m : Option ℕ) → met_at minds seed w items r n ≡ m → InRound r (suc n) (option_or o (option_map (λ which. record { round = r; id = n; which = which }) m))
  in_round_more r n (Some stop) here m e = record { round = here.round; below = (let below = here.below in omega (arith, below)); met = here.met; quiet = here.quiet }
  in_round_more r n None here (Some which) e = record { round = refl; below = omega arith; met = e; quiet = here }
  in_round_more r n None here None e = λ t below. go t below (nat_lt t n) refl
    where
      go : (t : ℕ) → t < suc n → (b : Bool) → nat_lt t n ≡ b → met_at minds seed w items r t ≡ None
      go t below true is = here t (ltb-true t n is)
      go t below false is = let same : n ≡ t = (let from = ltb-false t n is in omega (arith, from, below)) in subst (λ (k : ℕ). met_at minds seed w items r k ≡ None) same e

  in_round : (r n : ℕ) → InRound r n (first_in_round minds seed w items r n)
  in_round r zero = λ t below. absurd (omega (arith, below))
  in_round r (suc n) = in_round_more r n (first_in_round minds seed w items r n) (in_round r n) (met_at minds seed w items r n) refl

  -- what searching the first rounds gave
  abbrev InGame : ℕ → ℕ → Option Stop → Type 0
  InGame from rounds None = HasNoStop minds seed rounds from w items
  InGame from rounds (Some stop) = IsFirstStop minds seed rounds from w items stop

  in_game_more : (from n : ℕ) → from ≤ suc n → (o : Option Stop) → InGame from n o → (next : Option Stop) → InRound (suc n) w.ids next → InGame from (suc n) (option_or o next)
  in_game_more from n come (Some stop) here next there = later_rounds_add_nothing minds seed n (suc n) from w items stop (omega arith) here
  in_game_more from n come None here (Some stop) there = record {
    turn = record {
      begun = (let now = there.round in omega (arith, now));
      reached = (let now = there.round in omega (arith, now, come));
      played = (let now = there.round in omega (arith, now));
      made = there.below;
    };
    met = subst (λ (r : ℕ). met_at minds seed w items r stop.id ≡ Some stop.which) (sym there.round) there.met;
    none_before = λ r t turn before. earlier r t turn before;
  }
    where
      earlier : (r t : ℕ) → IsTurn w (suc n) from r t → IsEarlier r t stop.round stop.id → met_at minds seed w items r t ≡ None
      earlier r t turn (inl before) = here r t (record { begun = turn.begun; reached = turn.reached; played = (let now = there.round in omega (arith, now, before)); made = turn.made })
      earlier r t turn (inr before) = subst (λ (k : ℕ). met_at minds seed w items k t ≡ None) (sym (before.0 ∙ there.round)) (there.quiet t before.1)
  in_game_more from n come None here None there = λ r t turn. go r t turn (nat_lt r (suc n)) refl
    where
      go : (r t : ℕ) → IsTurn w (suc n) from r t → (b : Bool) → nat_lt r (suc n) ≡ b → met_at minds seed w items r t ≡ None
      go r t turn true is = here r t (record { begun = turn.begun; reached = turn.reached; played = (let below = ltb-true r (suc n) is in omega (arith, below)); made = turn.made })
      go r t turn false is =
          let bound = ltb-false r (suc n) is in
          let played = turn.played in
          let now : suc n ≡ r = omega (arith, bound, played) in
          subst (λ (k : ℕ). met_at minds seed w items k t ≡ None) now (there t turn.made)

  -- a round that hasn't come to `from` has no stop
  in_game_before : (from n : ℕ) → suc n < from → (o : Option Stop) → InGame from n o → InGame from (suc n) (option_or o None)
  in_game_before from n before (Some stop) here = later_rounds_add_nothing minds seed n (suc n) from w items stop (omega arith) here
  in_game_before from n before None here = λ r t turn. absurd (let reached = turn.reached in let played = turn.played in omega (arith, reached, played, before))

  in_game_next : (from n : ℕ) (b : Bool) → nat_le from (suc n) ≡ b → (o : Option Stop) → InGame from n o → (next : Option Stop) → InRound (suc n) w.ids next → InGame from (suc n) (option_or o (cond b next None))
  in_game_next from n true is o here next there = in_game_more from n (leb-true from (suc n) is) o here next there
  in_game_next from n false is o here next there = in_game_before from n (leb-false from (suc n) is) o here

  in_game : (from n : ℕ) → InGame from n (first_stop minds seed w items from n)
  in_game from zero = λ r t turn. absurd (let begun = turn.begun in let played = turn.played in omega (arith, begun, played))
  in_game from (suc n) =
      in_game_next from n (nat_le from (suc n)) refl (first_stop minds seed w items from n) (in_game from n) (first_in_round minds seed w items (suc n) w.ids) (in_round (suc n) w.ids)

  ends : (from rounds : ℕ) (o : Option Stop) → InGame from rounds o → EndsAt minds seed rounds from w items o (end_of minds seed rounds w o)
  ends from rounds None here = (here, refl)
  ends from rounds (Some stop) here = (here, refl)

  found_end : (rounds from : ℕ) → EndsAt minds seed rounds from w items (first_stop minds seed w items from rounds) (end_of minds seed rounds w (first_stop minds seed w items from rounds))
  found_end rounds from = ends from rounds (first_stop minds seed w items from rounds) (in_game from rounds)

  found_view : (rounds from : ℕ) (stop : Option Stop) (end : World) → EndsAt minds seed rounds from w items stop end → view_text end seed rounds stop ≡ view_of minds seed rounds from w items
  unfolding view_of
  found_view rounds from stop end here =
      let same = one_first_stop.one_end minds seed rounds from w items stop (first_stop minds seed w items from rounds) end (end_of minds seed rounds w (first_stop minds seed w items from rounds)) here (found_end rounds from) in
      ap₂ (λ (v : World) (s : Option Stop). view_text v seed rounds s) same.1 same.0

pub ends_are_found : EndsAreFound
ends_are_found = record {
  found = λ minds seed rounds from w items. found_end minds seed w items rounds from;
  view = λ minds seed rounds from w items stop end here. found_view minds seed w items rounds from stop end here;
}
