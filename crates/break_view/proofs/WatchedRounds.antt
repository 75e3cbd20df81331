-- Rounds and games that are watched for a stop.
use Rattle.std.proofs.Common.{◌≡◌, ◌+◌, ◌-◌, ◌<◌, ◌≤◌, ℕ, Bool, true, false, List, Option, Some, None, inl, inr, nat_lt, refl, sym, ap, ◌∙◌, subst, arith, ltb-true, ltb-false}
use Rattle.std.specs.Option.{is_some}
use Rattle.ant_random.specs.Stream.{SeedAndPlace}
use Rattle.ant_turn.specs.Minds.{Minds, Fits}
use Rattle.ant_turn.specs.Rounds.{Moment, after_rounds, start_of}
use Rattle.ant_turn.proofs.KeptByRounds.{after_rounds-ids}
use Rattle.cell_world.specs.Grid.{Grid, world_of}
use Rattle.cell_world.specs.Limits.{most_ants}
use Rattle.cell_world.specs.Score.{score_of}
use Rattle.cell_world.specs.World.{World}
use Rattle.cell_world.specs.declared.score.Score.{Score}
use Rattle.match_run.specs.Inner.Alone.{moment_from}
use Rattle.match_run.proofs.AloneLemmas.{IsTaken}
use Rattle.break_view.proofs.AfterRounds.{IsAfter, IsAfter-more, IsAfter-world}
use Rattle.break_view.specs.declared.breaks.Break.{Break}
use Rattle.break_view.specs.declared.stop.Stop.{Stop}
use Rattle.break_view.specs.Met.{first_met}
use Rattle.break_view.specs.Stops.{world_in_round, world_at, met_in_round, met_at, IsTurn, IsEarlier, HasNoStop, EndsAt}
use Rattle.break_view.specs.Inner.Rounds.{IsQuiet, StopsIn, Passes, RoundEnds}

-- no turn of the round is played yet
pub quiet-none : (minds : Minds) (seed : ℕ) (m : Moment) (items : List Break) (r : ℕ) → IsQuiet minds seed m items r 0
quiet-none minds seed m items r = λ t below. absurd (omega (arith, below))

-- one turn more without a stop
pub quiet-more : (minds : Minds) (seed : ℕ) (m : Moment) (items : List Break) (r n : ℕ) → IsQuiet minds seed m items r n → met_in_round minds seed m items r n ≡ None → IsQuiet minds seed m items r (n + 1)
quiet-more minds seed m items r n quiet none = λ t below. go t below (nat_lt t n) refl
  where
    go : (t : ℕ) → t < n + 1 → (b : Bool) → nat_lt t n ≡ b → met_in_round minds seed m items r t ≡ None
    go t below true e = quiet t (ltb-true t n e)
    go t below false e = let same : n ≡ t = (let from = ltb-false t n e in omega (arith, from, below)) in subst (λ k. met_in_round minds seed m items r k ≡ None) same none

-- the round so far: this many turns were taken, none of them with a stop
pub record IsWatching (minds : Minds) (items : List Break) (r : ℕ) (first : Grid) (start : SeedAndPlace) (turns : ℕ) (grid : Grid) (stream : SeedAndPlace) (score : Score) : Type 0 where
  pub scored : score ≡ score_of (world_of grid)
  pub taken : IsTaken minds first start turns grid stream
  pub quiet : IsQuiet minds start.seed (moment_from first start) items r turns

-- which break holds in the world after a turn
pub met-taken : {minds : Minds} {first : Grid} {start : SeedAndPlace} {grid : Grid} {stream : SeedAndPlace} → (items : List Break) (r id : ℕ) → IsTaken minds first start (id + 1) grid stream
    → met_in_round minds start.seed (moment_from first start) items r id ≡ first_met 1 items (world_of grid) r id
unfolding world_in_round
met-taken items r id taken = ap (λ (m : Moment). first_met 1 items m.world r id) (sym taken.moment)

-- the game so far: this many rounds were played, none of them with a stop
pub record IsWatched (minds : Minds) (seed from : ℕ) (w : World) (items : List Break) (round : ℕ) (grid : Grid) (stream : SeedAndPlace) (score : Score) : Type 0 where
  pub scored : score ≡ score_of (world_of grid)
  pub after : IsAfter minds seed w round grid stream
  pub quiet : HasNoStop minds seed round from w items

-- the rounds before `from` were played, or all rounds
pub watched-passed : (minds : Minds) (seed from : ℕ) (w : World) (items : List Break) (round : ℕ) (grid : Grid) (stream : SeedAndPlace) (score : Score) → round ≤ from - 1 → IsAfter minds seed w round grid stream → score ≡ score_of (world_of grid)
    → IsWatched minds seed from w items round grid stream score
watched-passed minds seed from w items round grid stream score before after scored = record {
  scored = scored;
  after = after;
  quiet = λ r t turn. absurd (let begun = turn.begun in let reached = turn.reached in let played = turn.played in omega (arith, begun, reached, played, before));
}

module _ {minds : Minds} {seed from : ℕ} {w : World} {items : List Break} {round : ℕ} {grid : Grid} {stream : SeedAndPlace} {score : Score} (watched : IsWatched minds seed from w items round grid stream score) where
  -- rounds make no id
  ids_kept : grid.ids ≡ w.ids
  ids_kept = ap (λ (m : Moment). m.world.ids) watched.after.moment ∙ after_rounds-ids minds seed (start_of w) round

  -- the world after a turn of the round that begins now
  world_here : (t : ℕ) → world_at minds seed w (round + 1) t ≡ world_in_round minds stream.seed (moment_from grid stream) t
  world_here t =
      let back : (round + 1) - 1 ≡ round = omega arith in
      ap (λ (k : ℕ). world_in_round minds seed (after_rounds minds seed (start_of w) k) t) back
      ∙ ap (λ (m : Moment). world_in_round minds seed m t) (sym watched.after.moment)
      ∙ ap (λ (s : ℕ). world_in_round minds s (moment_from grid stream) t) (sym watched.after.same_seed)

  -- which break holds after a turn of the round that begins now
  met_here : (r t : ℕ) → r ≡ round + 1 → met_at minds seed w items r t ≡ met_in_round minds stream.seed (moment_from grid stream) items (round + 1) t
  met_here r t now = ap (λ (k : ℕ). met_at minds seed w items k t) now ∙ ap (λ (v : World). first_met 1 items v (round + 1) t) (world_here t)

  -- one round more without a stop
  pub watched-more : (next : Grid) (later : SeedAndPlace) (now : Score) → Passes minds stream.seed (moment_from grid stream) items (round + 1) (moment_from next later)
      → later.seed ≡ stream.seed → later.place ≤ stream.place + most_ants → Fits (world_of next) minds → now ≡ score_of (world_of next) → IsWatched minds seed from w items (round + 1) next later now
  watched-more next later now passes same few fits scored = record {
    scored = scored;
    after = IsAfter-more watched.after next later (record { moment = passes.moment; seed = same; place = few; fit = fits });
    quiet = λ r t turn. go r t turn (nat_lt r (round + 1)) refl;
  }
    where
      go : (r t : ℕ) → IsTurn w (round + 1) from r t → (b : Bool) → nat_lt r (round + 1) ≡ b → met_at minds seed w items r t ≡ None
      go r t turn true e = watched.quiet r t (record { begun = turn.begun; reached = turn.reached; played = (let below = ltb-true r (round + 1) e in omega (arith, below)); made = turn.made })
      go r t turn false e =
          let bound = ltb-false r (round + 1) e in
          let played = turn.played in
          let now : r ≡ round + 1 = omega (arith, bound, played) in
          let made : t < grid.ids = (let below = turn.made in omega (arith, below, ids_kept)) in
          met_here r t now ∙ passes.quiet t made

  -- the stop of the round that begins now is the game's first
  pub first_stop : (rounds : ℕ) (stop : Stop) (end : Moment) → from ≤ round + 1 → round + 1 ≤ rounds → StopsIn minds stream.seed (moment_from grid stream) items (round + 1) stop end → EndsAt minds seed rounds from w items (Some stop) end.world
  unfolding world_in_round
  first_stop rounds stop end come some stops = (
    record { turn = turn; met = met_here stop.round stop.id stops.round ∙ stops.met; none_before = λ r t other before. earlier r t other before },
    ap (λ (m : Moment). m.world) stops.moment ∙ sym (world_here stop.id) ∙ ap (λ (k : ℕ). world_at minds seed w k stop.id) (sym stops.round),
  )
    where
      turn : IsTurn w rounds from stop.round stop.id
      turn = record {
        begun = (let now = stops.round in omega (arith, now));
        reached = (let now = stops.round in omega (arith, now, come));
        played = (let now = stops.round in omega (arith, now, some));
        made = (let made = stops.made in omega (arith, made, ids_kept));
      }

      earlier : (r t : ℕ) → IsTurn w rounds from r t → IsEarlier r t stop.round stop.id → met_at minds seed w items r t ≡ None
      earlier r t other (inl before) = watched.quiet r t (record { begun = other.begun; reached = other.reached; played = (let now = stops.round in omega (arith, now, before)); made = other.made })
      earlier r t other (inr before) = met_here r t (before.0 ∙ stops.round) ∙ stops.quiet t before.1

  -- a round that ends with a stop
  pub ends_stopped : (rounds : ℕ) (stop : Option Stop) (end : Moment) → from ≤ round + 1 → round + 1 ≤ rounds → is_some stop ≡ true → RoundEnds minds stream.seed (moment_from grid stream) items (round + 1) stop end → EndsAt minds seed rounds from w items stop end.world
  ends_stopped rounds None end come some is ends = absurd (let never : false ≡ true = is in cc)
  ends_stopped rounds (Some stop) end come some is ends = first_stop rounds stop end come some ends

  -- a round that ends without a stop
  pub ends_passed : (stop : Option Stop) (end : Moment) → is_some stop ≡ false → RoundEnds minds stream.seed (moment_from grid stream) items (round + 1) stop end → Passes minds stream.seed (moment_from grid stream) items (round + 1) end
  ends_passed None end is ends = ends
  ends_passed (Some stop) end is ends = absurd (let never : true ≡ false = is in cc)

  -- a game that ends without a stop
  pub ends_without : (rounds : ℕ) → round ≡ rounds → EndsAt minds seed rounds from w items None (world_of grid)
  ends_without rounds all = subst (λ (k : ℕ). EndsAt minds seed k from w items None (world_of grid)) all (watched.quiet, IsAfter-world watched.after)
