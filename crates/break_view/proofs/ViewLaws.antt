-- What holds of all games with breaks.
use Rattle.std.proofs.Common.{◌≡◌, ◌+◌, ◌<◌, ◌≤◌, ℕ, zero, suc, Bool, true, false, List, [], ◌∷◌, length, slice_index_or, Option, Some, None, inl, inr, cond, nat_lt, refl, sym, ap, ap₂, ◌∙◌, subst, arith, ltb-true, ltb-false}
use Rattle.std.specs.List.{Contains}
use Rattle.std.proofs.lemmas.Bool.{false≢true}
use Rattle.cell_world.specs.World.{World}
use Rattle.ant_turn.specs.Minds.{Minds}
use Rattle.break_view.specs.declared.breaks.Break.{Break}
use Rattle.break_view.specs.declared.stop.Stop.{Stop}
use Rattle.break_view.specs.Met.{is_met, first_met}
use Rattle.break_view.specs.Stops.{world_at, met_at, IsEarlier, IsFirstStop, HasNoStop, EndsAt}
use Rattle.break_view.specs.Texts.{IsViewText, view_text}
use Rattle.break_view.specs.Laws.{StandIn, FewerStopLater, StopsFollowTurns, LaterRoundsAddNothing, OneFirstStop}

-- a break of the list that holds
record IsFound (items : List Break) (w : World) (r t : ℕ) : Type 0 where
  item : Break
  stands : Contains items item
  holds : is_met item w r t ≡ true

-- what holds in front of a list, or after its first break
found_first : (item : Break) (items : List Break) (w : World) (r t : ℕ) → is_met item w r t ≡ true → IsFound (item ∷ items) w r t
found_first item items w r t holds = record { item = item; stands = (0, omega arith, refl); holds = holds }

found_later : (item : Break) (items : List Break) (w : World) (r t : ℕ) → IsFound items w r t → IsFound (item ∷ items) w r t
found_later item items w r t found = let there = found.stands in record { item = found.item; stands = (suc there.0, omega (arith, there.1), there.2); holds = found.holds }

-- if a number is given, a break holds
found : (items : List Break) (number : ℕ) (w : World) (r t which : ℕ) → first_met number items w r t ≡ Some which → IsFound items w r t
found [] number w r t which e = (let never : None ≡ Some which = e in absurd (cc))
found (item ∷ items) number w r t which e = go (is_met item w r t) refl (found items (number + 1) w r t which) e
  where
    go : (b : Bool) → is_met item w r t ≡ b → (first_met (number + 1) items w r t ≡ Some which → IsFound items w r t) → cond b (Some number) (first_met (number + 1) items w r t) ≡ Some which → IsFound (item ∷ items) w r t
    go true is later q = found_first item items w r t is
    go false is later q = found_later item items w r t (later q)

-- if none is given, no break holds
absent : (items : List Break) (number : ℕ) (w : World) (r t : ℕ) → first_met number items w r t ≡ None → (item : Break) → Contains items item → is_met item w r t ≡ false
absent [] number w r t none item there = absurd (omega (arith, there.1))
absent (first ∷ items) number w r t none item there = go (is_met first w r t) refl (absent items (number + 1) w r t) none
  where
    pick : (k : ℕ) → k < length (first ∷ items) → slice_index_or (first ∷ items) k item ≡ item → is_met first w r t ≡ false → ((other : Break) → Contains items other → is_met other w r t ≡ false) → is_met item w r t ≡ false
    pick zero below same here later = subst (λ i. is_met i w r t ≡ false) same here
    pick (suc k) below same here later = later item (k, omega (arith, below), same)

    go : (b : Bool) → is_met first w r t ≡ b → (first_met (number + 1) items w r t ≡ None → (other : Break) → Contains items other → is_met other w r t ≡ false) → cond b (Some number) (first_met (number + 1) items w r t) ≡ None → is_met item w r t ≡ false
    go true is later q = (let never : Some number ≡ None = q in absurd (cc))
    go false is later q = pick there.0 there.1 there.2 is (later q)

-- if no break of a list holds, none of fewer breaks does
none_in : (few more : List Break) → StandIn few more → (w : World) (r t : ℕ) → first_met 1 more w r t ≡ None → first_met 1 few w r t ≡ None
none_in few more stand w r t none = go (first_met 1 few w r t) refl
  where
    go : (o : Option ℕ) → first_met 1 few w r t ≡ o → o ≡ None
    go None e = refl
    go (Some which) e = let it = found few 1 w r t which e in absurd (false≢true (sym (absent more 1 w r t none it.item (stand it.item it.stands)) ∙ it.holds))

pub fewer_stop_later : FewerStopLater
fewer_stop_later = record {
  later = λ minds seed rounds from w few more stop earlier stand here there before.
      let none = none_in few more stand (world_at minds seed w stop.round stop.id) stop.round stop.id (there.none_before stop.round stop.id here.turn before) in
      never stop.which (sym none ∙ here.met);
  never = λ minds seed rounds from w few more stand quiet r t turn. none_in few more stand (world_at minds seed w r t) r t (quiet r t turn);
}
  where
    never : (which : ℕ) → ◌≡◌ {A = Option ℕ} None (Some which) → ⊥
    never which e = cc

pub stops_follow_turns : StopsFollowTurns
stops_follow_turns = record {
  round = λ minds seed rounds from w items stop first. first.turn.begun;
  reached = λ minds seed rounds from w items stop first. first.turn.reached;
  no_round = λ minds seed from w items r t turn. absurd (let begun = turn.begun in let played = turn.played in omega (arith, begun, played));
  none_reached = λ minds seed rounds from w items below r t turn. absurd (let reached = turn.reached in let played = turn.played in omega (arith, reached, played, below));
  no_ant = λ minds seed rounds from w items none r t turn. absurd (let made = turn.made in omega (arith, made, none));
  no_break = λ minds seed rounds from w r t turn. refl;
}

-- a turn before another is played where the other is
within : (r t round id rounds : ℕ) → IsEarlier r t round id → round ≤ rounds → r ≤ rounds
within r t round id rounds (inl before) played = omega (arith, before, played)
within r t round id rounds (inr before) played = let same = before.0 in omega (arith, same, played)

pub later_rounds_add_nothing : LaterRoundsAddNothing
later_rounds_add_nothing minds seed rounds more from w items stop le first =
    record {
      turn = record { begun = first.turn.begun; reached = first.turn.reached; played = (let played = first.turn.played in omega (arith, played, le)); made = first.turn.made };
      met = first.met;
      none_before = λ r t turn before. first.none_before r t (record { begun = turn.begun; reached = turn.reached; played = within r t stop.round stop.id rounds before first.turn.played; made = turn.made }) before;
    }

module _ (minds : Minds) (seed rounds from : ℕ) (w : World) (items : List Break) where
  -- no first stop is before another
  not_before : (a b : Stop) → IsFirstStop minds seed rounds from w items a → IsFirstStop minds seed rounds from w items b → IsEarlier a.round a.id b.round b.id → ⊥
  not_before a b here there before =
      let e : ◌≡◌ {A = Option ℕ} None (Some a.which) = sym (there.none_before a.round a.id here.turn before) ∙ here.met in cc

  same_round : (a b : Stop) → IsFirstStop minds seed rounds from w items a → IsFirstStop minds seed rounds from w items b → a.round ≤ b.round
  same_round a b here there = go (nat_lt b.round a.round) refl
    where
      go : (t : Bool) → nat_lt b.round a.round ≡ t → a.round ≤ b.round
      go true e = absurd (not_before b a there here (inl (ltb-true b.round a.round e)))
      go false e = ltb-false b.round a.round e

  same_id : (a b : Stop) → IsFirstStop minds seed rounds from w items a → IsFirstStop minds seed rounds from w items b → b.round ≡ a.round → a.id ≤ b.id
  same_id a b here there same = go (nat_lt b.id a.id) refl
    where
      go : (t : Bool) → nat_lt b.id a.id ≡ t → a.id ≤ b.id
      go true e = absurd (not_before b a there here (inr (same, ltb-true b.id a.id e)))
      go false e = ltb-false b.id a.id e

  one_stop : (a b : Stop) → IsFirstStop minds seed rounds from w items a → IsFirstStop minds seed rounds from w items b → a ≡ b
  one_stop a b here there =
      let up = same_round a b here there in
      let down = same_round b a there here in
      let round : a.round ≡ b.round = omega (arith, up, down) in
      let left = same_id a b here there (sym round) in
      let right = same_id b a there here round in
      let id : a.id ≡ b.id = omega (arith, left, right) in
      let met : ◌≡◌ {A = Option ℕ} (Some a.which) (Some b.which) = sym here.met ∙ ap (λ (r : ℕ). met_at minds seed w items r a.id) round ∙ ap (met_at minds seed w items b.round) id ∙ there.met in
      let which : a.which ≡ b.which = cc in
      ap (λ (r : ℕ). made r a.id a.which) round ∙ ap (λ (t : ℕ). made b.round t a.which) id ∙ ap (made b.round b.id) which
    where
      made : ℕ → ℕ → ℕ → Stop
      made r t k = record { round = r; id = t; which = k }

  not_both : (a : Stop) → IsFirstStop minds seed rounds from w items a → HasNoStop minds seed rounds from w items → ⊥
  not_both a here quiet = let e : ◌≡◌ {A = Option ℕ} None (Some a.which) = sym (quiet a.round a.id here.turn) ∙ here.met in cc

  one_end : (a b : Option Stop) (u v : World) → EndsAt minds seed rounds from w items a u → EndsAt minds seed rounds from w items b v → (a ≡ b) × (u ≡ v)
  one_end None None u v here there = (refl, here.1 ∙ sym there.1)
  one_end None (Some b) u v here there = absurd (not_both b there.0 here.0)
  one_end (Some a) None u v here there = absurd (not_both a here.0 there.0)
  one_end (Some a) (Some b) u v here there =
      let same = one_stop a b here.0 there.0 in
      (ap Some same, here.1 ∙ ap (λ (s : Stop). world_at minds seed w s.round s.id) same ∙ sym there.1)

  one_view : (text other : List ℕ) → IsViewText minds seed rounds from w items text → IsViewText minds seed rounds from w items other → text ≡ other
  one_view text other here there =
      let same = one_end here.stop there.stop here.end there.end here.ends there.ends in
      here.view ∙ ap₂ (λ (v : World) (stop : Option Stop). view_text v seed rounds stop) same.1 same.0 ∙ sym there.view

pub one_first_stop : OneFirstStop
one_first_stop = record {
  one = λ minds seed rounds from w items a b here there. one_stop minds seed rounds from w items a b here there;
  never_both = λ minds seed rounds from w items a here quiet. not_both minds seed rounds from w items a here quiet;
  one_end = λ minds seed rounds from w items a b u v here there. one_end minds seed rounds from w items a b u v here there;
  one_view = λ minds seed rounds from w items text other here there. one_view minds seed rounds from w items text other here there;
}
