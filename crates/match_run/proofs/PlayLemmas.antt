-- What playing a run pushes, and where it stands.
use Rattle.std.proofs.Common.{◌≡◌, inl, ℕ, ◌+◌, ◌-◌, ◌*◌, ◌^◌, ◌<◌, ◌≤◌, Bool, List, [], ◌++◌, length, refl, sym, ◌∙◌, ap, ap₂, subst, Result, Ok, Err, append_assoc, arith}
use Rattle.std.proofs.lemmas.Nat.{mul-le}
use Rattle.ant_base.specs.Sink.{SinkState, PushedAll, PushedFront}
use Rattle.ant_base.proofs.Numbered.{numbered-front, numbered-more, numbered-none}
use Rattle.ant_base.proofs.Pushes.{all_of_nothing, all_then, front_more, front_then}
use Rattle.ant_turn.specs.Minds.{Minds}
use Rattle.ant_turn.specs.Rounds.{Moment, after_round, after_rounds}
use Rattle.ant_turn.proofs.KeptByRounds.{after_rounds-more}
use Rattle.cell_world.specs.Grid.{world_of}
use Rattle.dump_print.specs.declared.totals.Totals.{Totals}
use Rattle.ant_base.specs.declared.push_fault.PushFault.{PushFault}
use Rattle.ant_base.specs.declared.push_fault.PushFault.TheVariants.{WriteFault, OutOfMemory}
use Rattle.match_run.specs.Counts.{both, round_totals, totals_of}
use Rattle.match_run.specs.Game.{GameValue, GoesOnFor, IsRoundPlayed, RisesUpTo, counted_on, now_of, totals_ahead}
use Rattle.match_run.specs.Inner.Rounds.{RoundStopped, RoundsStop}
use Rattle.match_run.specs.Play.{PushedBy, PushedProperPrefix, StoppedBy}
use Rattle.match_run.specs.Later.{later_dumps}
use Rattle.match_run.specs.Run.{chosen_dump}
use Rattle.match_run.specs.Stopped.{StopsBy, dumps_behind}
use Rattle.match_run.proofs.CountLemmas.{both-both, both-none, round_totals-turns, sum_windows-turns, totals_of-more, totals_of-turns}
use Rattle.match_run.proofs.GameLemmas.{whole-moment, whole-totals}
use Rattle.match_run.proofs.LaterLaws.{some_then}

-- nothing of a text that has something is pushed
pub prefix_of_nothing : (state : SinkState) (text : List ℕ) → 1 ≤ length text → PushedProperPrefix state state text
prefix_of_nothing state text some = record { front = []; rest = text; whole = refl; some_left = some; pushed = all_of_nothing state }

-- one text, and then a play that stopped in another
pub stopped_then : (old mid new : SinkState) (a b : List ℕ) (fault : PushFault) → PushedAll old mid a → StoppedBy mid new b fault → StoppedBy old new (a ++ b) fault
stopped_then old mid new a b WriteFault p q = front_then old mid new a b p q
stopped_then old mid new a b OutOfMemory p q = record {
  front = a ++ q.front;
  rest = q.rest;
  whole = ap (λ t. a ++ t) q.whole ∙ sym (append_assoc a q.front q.rest);
  some_left = q.some_left;
  pushed = all_then old mid new a q.front p q.pushed;
}

-- a game at the end of a round, before it continues
pub GoesOnFor-none : (game : GameValue) → game.next ≡ 0 → GoesOnFor game game 0
GoesOnFor-none game ends = record {
  now = refl;
  totals = sym (both-none game.totals);
  done = omega arith;
  next = ends;
  same = record { minds = refl; seed = refl; ids = refl; window = refl; first_place = refl };
}

module _ {old : GameValue} {round : ℕ} {game : GameValue} (at : GoesOnFor old game round) where
  -- one round more is played
  pub GoesOnFor-more : (new : GameValue) → IsRoundPlayed game new → GoesOnFor old new (round + 1)
  GoesOnFor-more new played =
      let minds : Minds = old.field.minds in
      let seed : ℕ = old.field.seed in
      let size : ℕ = old.window in
      let there : Moment = after_rounds minds seed (now_of old) round in
      record {
        now =
            whole-moment game new at.next played
            ∙ ap (λ m. after_round m game.field.seed (now_of game)) at.same.minds
            ∙ ap (λ (s : ℕ). after_round minds s (now_of game)) at.same.seed
            ∙ ap (after_round minds seed) at.now
            ∙ sym (after_rounds-more minds seed (now_of old) round);
        totals =
            whole-totals game new at.next played
            ∙ ap (λ m. both game.totals (round_totals m game.field.seed game.window (now_of game))) at.same.minds
            ∙ ap (λ (s : ℕ). both game.totals (round_totals minds s game.window (now_of game))) at.same.seed
            ∙ ap (λ (n : ℕ). both game.totals (round_totals minds seed n (now_of game))) at.same.window
            ∙ ap₂ (λ t m. both t (round_totals minds seed size m)) at.totals at.now
            ∙ both-both old.totals (totals_of minds seed size (now_of old) round) (round_totals minds seed size there)
            ∙ ap (both old.totals) (sym (totals_of-more minds seed size (now_of old) round));
        done = played.done ∙ ap (λ n. n + 1) at.done ∙ omega arith;
        next = played.next;
        same = record {
          minds = played.same.minds ∙ at.same.minds;
          seed = played.same.seed ∙ at.same.seed;
          ids = played.same.ids ∙ at.same.ids;
          window = played.same.window ∙ at.same.window;
          first_place = played.same.first_place ∙ at.same.first_place;
        };
      }

  -- how many turns were played
  pub GoesOnFor-turns : 1 ≤ old.window → game.totals.turns ≡ old.totals.turns + old.field.world.ids * round
  GoesOnFor-turns sized = ap (λ (t : Totals). t.turns) at.totals ∙ ap (λ n. old.totals.turns + n) (totals_of-turns old.field.minds old.field.seed old.window (now_of old) round sized)

  -- the world is that after the rounds
  pub GoesOnFor-world : world_of game.field.world ≡ (after_rounds old.field.minds old.field.seed (now_of old) round).world
  GoesOnFor-world = ap (λ (m : Moment). m.world) at.now

-- the dump of one round more comes last
pub later_dumps-more : (minds : Minds) (seed : ℕ) (chosen : ℕ → Bool) (m : Moment) (round n : ℕ) → later_dumps minds seed chosen m round (n + 1)
    ≡ later_dumps minds seed chosen m round n ++ chosen_dump chosen (after_rounds minds seed m (n + 1)).world (round + n + 1)
unfolding later_dumps
later_dumps-more minds seed chosen m round n = numbered-more (λ i. chosen_dump chosen (after_rounds minds seed m (i + 1)).world (round + i + 1)) n

-- no later round has no dump
pub later_dumps-none : (minds : Minds) (seed : ℕ) (chosen : ℕ → Bool) (m : Moment) (round : ℕ) → later_dumps minds seed chosen m round 0 ≡ []
unfolding later_dumps
later_dumps-none minds seed chosen m round = numbered-none (λ i. chosen_dump chosen (after_rounds minds seed m (i + 1)).world (round + i + 1))

-- the dumps of the first later rounds are a prefix of all
pub later_dumps-front : (minds : Minds) (seed : ℕ) (chosen : ℕ → Bool) (m : Moment) (round i n : ℕ) → i ≤ n → (rest : List ℕ) × (later_dumps minds seed chosen m round n ≡ later_dumps minds seed chosen m round i ++ rest)
unfolding later_dumps
later_dumps-front minds seed chosen m round i n le = numbered-front (λ k. chosen_dump chosen (after_rounds minds seed m (k + 1)).world (round + k + 1)) i n le

-- a round that wasn't shown stops the dumps up to it and whatever text comes after them, which has something
pub stopped-shown : {first : GameValue} {round : ℕ} {old : GameValue} (sink mid new_sink : SinkState) (chosen : ℕ → Bool) → GoesOnFor first old round → (new : GameValue) (fault : PushFault)
    → PushedAll sink mid (later_dumps first.field.minds first.field.seed chosen (now_of first) first.done round) → RoundStopped old new chosen (first.done + round + 1) mid new_sink fault
    → (rest : List ℕ) → 1 ≤ length rest → StoppedBy sink new_sink (later_dumps first.field.minds first.field.seed chosen (now_of first) first.done (round + 1) ++ rest) fault
stopped-shown {first} {round} {old} sink mid new_sink chosen at new WriteFault so_far stopped rest some =
    rw (later_dumps-more first.field.minds first.field.seed chosen (now_of first) first.done round, ← GoesOnFor-world (GoesOnFor-more at new stopped.0)) (front_more sink new_sink _ rest (front_then sink mid new_sink _ _ so_far stopped.1))
stopped-shown {first} {round} {old} sink mid new_sink chosen at new OutOfMemory so_far stopped rest some = record {
  front = later_dumps first.field.minds first.field.seed chosen (now_of first) first.done round;
  rest = chosen_dump chosen (after_rounds first.field.minds first.field.seed (now_of first) (round + 1)).world (first.done + round + 1) ++ rest;
  whole =
      ap (λ (dumps : List ℕ). dumps ++ rest) (later_dumps-more first.field.minds first.field.seed chosen (now_of first) first.done round)
      ∙ append_assoc (later_dumps first.field.minds first.field.seed chosen (now_of first) first.done round)
      (chosen_dump chosen (after_rounds first.field.minds first.field.seed (now_of first) (round + 1)).world (first.done + round + 1)) rest;
  some_left = some_then (chosen_dump chosen (after_rounds first.field.minds first.field.seed (now_of first) (round + 1)).world (first.done + round + 1)) rest some;
  pushed = subst (λ (state : SinkState). PushedAll sink state (later_dumps first.field.minds first.field.seed chosen (now_of first) first.done round)) (sym stopped.1) so_far;
}

-- a round that wasn't shown stops a play of more rounds
pub RoundsStop-shown : {first old : GameValue} {round : ℕ} (new : GameValue) (rounds : ℕ) (chosen : ℕ → Bool) (sink mid new_sink : SinkState) (fault : PushFault) → round < rounds → GoesOnFor first old round
    → PushedAll sink mid (dumps_behind first chosen round) → RoundStopped old new chosen (first.done + round + 1) mid new_sink fault → RoundsStop first new rounds chosen sink new_sink fault
RoundsStop-shown {first} {old} {round} new rounds chosen sink mid new_sink WriteFault more at so_far stopped =
    let whole : GoesOnFor first new (round + 1) = GoesOnFor-more at new stopped.0 in
    let behind : first.done + round + 1 ≡ new.done = (let done = whole.done in omega (arith, done)) in
    record {
      shown = round;
      left = more;
      whole = whole;
      mid = mid;
      before = so_far;
      failed = subst (λ (n : ℕ). PushedFront mid new_sink (chosen_dump chosen (world_of new.field.world) n)) behind stopped.1;
    }
RoundsStop-shown {first} {old} {round} new rounds chosen sink mid new_sink OutOfMemory more at so_far stopped = record {
  shown = round;
  left = more;
  at = old;
  whole = at;
  refused = stopped.0;
  before = subst (λ (state : SinkState). PushedAll sink state (dumps_behind first chosen round)) (sym stopped.1) so_far;
}

-- a play whose rounds stopped has stopped
pub StopsBy-rounds : (old new : GameValue) (rounds : ℕ) (chosen : ℕ → Bool) (stats : Bool) (sink new_sink : SinkState) (fault : PushFault) → RoundsStop old new rounds chosen sink new_sink fault → StopsBy old new rounds chosen stats sink new_sink fault
StopsBy-rounds old new rounds chosen stats sink new_sink WriteFault stop = inl stop
StopsBy-rounds old new rounds chosen stats sink new_sink OutOfMemory stop = stop

-- a round that wasn't shown had a turn of each id at most
pub RoundStopped-turns : (old new : GameValue) (chosen : ℕ → Bool) (n : ℕ) (mid new_sink : SinkState) (fault : PushFault) → old.next ≡ 0 → 1 ≤ old.window → RoundStopped old new chosen n mid new_sink fault
    → (old.totals.turns ≤ new.totals.turns) × (new.totals.turns ≤ old.totals.turns + old.field.world.ids)
RoundStopped-turns old new chosen n mid new_sink WriteFault ends sized stopped =
    let sum : new.totals.turns ≡ old.totals.turns + (round_totals old.field.minds old.field.seed old.window (now_of old)).turns = ap (λ (t : Totals). t.turns) (whole-totals old new ends stopped.0) in
    let turns = round_totals-turns old.field.minds old.field.seed old.window (now_of old) sized in
    (omega (arith, sum), omega (arith, sum, turns))
RoundStopped-turns old new chosen n mid new_sink OutOfMemory ends sized stopped =
    let windows : ℕ = stopped.0.windows in
    let sum : new.totals.turns ≡ old.totals.turns + (totals_ahead old windows).turns = ap (λ (t : Totals). t.turns) stopped.0.totals in
    let turns = sum_windows-turns old.field.minds old.field.seed old.window (now_of old) old.next windows (omega (arith, ends)) in
    (omega (arith, sum), omega (arith, sum, turns))

-- one text, and then a play that pushes another
pub by_then : {A : Type 0} (old mid new : SinkState) (a b : List ℕ) (result : Result A PushFault) → PushedAll old mid a → PushedBy mid new b result → PushedBy old new (a ++ b) result
by_then old mid new a b (Ok _) p q = all_then old mid new a b p q
by_then old mid new a b (Err fault) p q = stopped_then old mid new a b fault p q

-- a crew's count of turns continues with a round
pub counted-round : (first mid new before after turns ids round : ℕ) → mid ≡ counted_on first (ids * round) → new ≡ counted_on mid (after - before) → before ≡ turns + ids * round → after ≡ turns + ids * (round + 1) → new ≡ counted_on first (ids * (round + 1))
counted-round first mid new before after turns ids round so_far step is_before is_after = omega arith

-- a crew's count of turns before a round
pub counted-start : (played ids : ℕ) → played < 2 ^ 64 → played ≡ counted_on played (ids * 0)
counted-start played ids small = omega arith

-- a crew's count of turns continues with the turns of a round that wasn't shown
pub counted-stopped : (first mid new before turns after ids round : ℕ) → mid ≡ counted_on first (ids * round) → new ≡ counted_on mid (after - turns) → turns ≡ before + ids * round → turns ≤ after → new ≡ counted_on first (after - before)
counted-stopped first mid new before turns after ids round so_far step is_turns le = omega arith

-- this many turns of the ids are those of this many rounds at most
pub rises-rounds : (first new before after ids round rounds : ℕ) → first < 2 ^ 64 → new ≡ counted_on first (after - before) → after ≤ before + ids * (round + 1) → round < rounds → RisesUpTo first new (ids * rounds)
rises-rounds first new before after ids round rounds small counted le more =
    let all : ids * (round + 1) ≤ ids * rounds = mul-le ids (round + 1) ids rounds (omega arith) (omega arith) in
    (omega (arith, all), omega (arith, all))

-- the turns of whole rounds
pub rises-all : (first new ids rounds : ℕ) → first < 2 ^ 64 → new ≡ counted_on first (ids * rounds) → RisesUpTo first new (ids * rounds)
rises-all first new ids rounds small counted = (omega arith, omega arith)
