-- Turns and rounds before who watches, one after another.
use Rattle.std.proofs.Common.{◌≡◌, ℕ, ◌+◌, ◌-◌, ◌*◌, ◌≤◌, List, [], ◌∷◌, ◌++◌, Result, Ok, Err, refl, sym, ◌∙◌, ap, ap₂, append-nil, append_assoc, arith, subst}
use Rattle.std.specs.Prelude.{⊤, IsTrue, OnOk}
use Rattle.std.specs.Result.{IsErrAnd, is_ok}
use Rattle.ant_random.specs.Stream.{SeedAndPlace}
use Rattle.cell_world.specs.Cell.{one_if}
use Rattle.cell_world.specs.Limits.{most_ants}
use Rattle.cell_world.specs.World.{World, with_cells}
use Rattle.ant_turn.specs.Listed.{AreUp, after_listed}
use Rattle.ant_turn.specs.Minds.{Fits, Minds}
use Rattle.ant_turn.specs.Rounds.{Moment, after_round, after_rounds, after_turn, after_turns}
use Rattle.ant_turn.specs.Turn.{turn}
use Rattle.ant_turn.proofs.KeptByRounds.{after_rounds-more, after_turn-place, after_turns-ids, after_turns-then}
use Rattle.ant_turn.proofs.RestingChunks.{AreUp-next}
use Rattle.round_book.proofs.BookLemmas.{moment_at}
use Rattle.match_run.specs.Inner.Watch.{told_in_listed}
use Rattle.match_run.specs.Told.{Telling, told_in_round, told_in_rounds, told_in_turns}
use Rattle.match_run.specs.Watch.{IsFair, IsWatched, IsAtMoment, moment_of}
use Rattle.match_run.proofs.RestsUntold.{told_in_turns-then}
use Rattle.match_run.proofs.ToldLemmas.{told_in_rounds-front, told_in_rounds-more, told_in_turns-front}

-- what the exit of a `?` returns, if the error stays as it is
pub err_is : {T E : Type 0} (result : Result T E) (stop : E) → IsErrAnd result (λ e. e ≡ stop) → result ≡ Err stop
err_is (Ok _) stop is = absurd is
err_is (Err _) stop is = ap Err is

-- what holds anyway holds at Ok
pub on_ok : {A E X : Type 0} (result : Result A E) → X → OnOk result X
on_ok (Ok _) x = x
on_ok (Err _) x = tt

-- what follows from what holds at Ok
pub on_ok-then : {A E X Y : Type 0} (result : Result A E) → (X → Y) → OnOk result X → OnOk result Y
on_ok-then (Ok _) f x = f x
on_ok-then (Err _) f x = tt

-- a turn leads to the moment after it
pub IsAtMoment-turn : (minds : Minds) (w next : World) (s later : SeedAndPlace) (t : ℕ)
    → next ≡ with_cells w (turn minds s.seed w s.place t).cells
    → later ≡ record s { place = s.place + one_if (turn minds s.seed w s.place t).drew }
    → Fits next minds → IsAtMoment minds (after_turn minds s.seed (moment_of w s) t) s next later
unfolding after_turn
IsAtMoment-turn minds w next s later t world place fits = record {
  moment = ap₂ moment_at world (ap (λ (s : SeedAndPlace). s.place) place);
  seed = ap (λ (s : SeedAndPlace). s.seed) place;
  fit = fits;
}

-- it is at a moment, and then where something leads from there
IsAtMoment-then : {minds : Minds} {m : Moment} {start s later : SeedAndPlace} {w next : World} → IsAtMoment minds m start w s → (f : ℕ → Moment → Moment) → IsAtMoment minds (f s.seed (moment_of w s)) s next later → IsAtMoment minds (f start.seed m) start next later
IsAtMoment-then stands f then = record {
  moment = then.moment ∙ ap₂ f stands.seed stands.moment;
  seed = then.seed ∙ stands.seed;
  fit = then.fit;
}

-- turns make no id
pub IsAtMoment-ids : {minds : Minds} (w₀ : World) {w : World} {start s : SeedAndPlace} (k : ℕ) → IsAtMoment minds (after_turns minds start.seed (moment_of w₀ start) 0 k) start w s → w.ids ≡ w₀.ids
IsAtMoment-ids {minds} w₀ {w} {start} {s} k stands = ap (λ (m : Moment). m.world.ids) stands.moment ∙ after_turns-ids minds start.seed (moment_of w₀ start) 0 k

-- a turn takes one number at most
pub turn-place : (minds : Minds) (w : World) (s later : SeedAndPlace) (t : ℕ) → later ≡ record s { place = s.place + one_if (turn minds s.seed w s.place t).drew } → later.place ≤ s.place + 1
unfolding after_turn
turn-place minds w s later t drawn =
    let within = after_turn-place minds s.seed (moment_of w s) t in
    rw (ap (λ (s : SeedAndPlace). s.place) drawn) within.to

module _ {A Log Stop : Type 0} {telling : ℕ → Telling A} {logs : Log → Log → List A → Result (Unit {0}) Stop → Type 0} {ready : Log → ℕ → Type 0} (fair : IsFair telling logs ready) (minds : Minds) where
  -- none was watched
  pub IsWatched-none : (w : World) (s : SeedAndPlace) (log : Log) → Fits w minds → IsWatched logs ready minds s log log [] 0 (moment_of w s) w s (Ok tt)
  IsWatched-none w s log fits = record {
    logged = fair.none log;
    stands = record { moment = refl; seed = refl; fit = fits };
    place = omega arith;
    room = λ left has. fair.fewer log left 0 has;
  }

  -- an idle turn has no report
  pub IsWatched-idle : (w : World) {next : World} {s later : SeedAndPlace} (t : ℕ) {told : List A} (log : Log) → told ≡ []
      → next ≡ with_cells w (turn minds s.seed w s.place t).cells
      → later ≡ record s { place = s.place + one_if (turn minds s.seed w s.place t).drew }
      → Fits next minds → IsWatched logs ready minds s log log told 1 (after_turn minds s.seed (moment_of w s) t) next later (Ok tt)
  IsWatched-idle w {next} {s} {later} t {told} log quiet world drawn fits = record {
    logged = subst (λ (l : List A). logs log log l (Ok tt)) (sym quiet) (fair.none log);
    stands = IsAtMoment-turn minds w next s later t world drawn fits;
    place = turn-place minds w s later t drawn;
    room = λ left has. fair.fewer log left 1 has;
  }

  -- the turn of an ant that was found
  pub IsWatched-found : {w read next : World} {s later : SeedAndPlace} {t id : ℕ} {old new : Log} (tell : Moment → ℕ → List A) (result : Result (Unit {0}) Stop) → read ≡ w → id ≡ t
      → next ≡ with_cells read (turn minds s.seed read s.place id).cells
      → later ≡ record s { place = s.place + one_if (turn minds s.seed read s.place id).drew }
      → Fits next minds → logs old new (tell (moment_of read s) id) result → OnOk result ((left : ℕ) → ready old (left + 1) → ready new left)
      → IsWatched logs ready minds s old new (tell (moment_of w s) t) 1 (after_turn minds s.seed (moment_of w s) t) next later result
  IsWatched-found {w} {read} {next} {s} {later} {t} {id} {old} {new} tell result same it world drawn fits logged goes =
      rw (← same, ← it) (record {
        logged = logged;
        stands = on_ok result (IsAtMoment-turn minds read next s later id world drawn fits);
        place = on_ok result (turn-place minds read s later id drawn);
        room = goes;
      })

  -- some, and then more
  pub IsWatched-then : {start s later : SeedAndPlace} {old mid new : Log} {told : List A} {turns : ℕ} {m : Moment} {w next : World} → IsWatched logs ready minds start old mid told turns m w s (Ok tt)
      → (f : ℕ → Moment → Moment) (tell : ℕ → Moment → List A) (more : ℕ) (result : Result (Unit {0}) Stop)
      → IsWatched logs ready minds s mid new (tell s.seed (moment_of w s)) more (f s.seed (moment_of w s)) next later result
      → IsWatched logs ready minds start old new (told ++ tell start.seed m) (turns + more) (f start.seed m) next later result
  IsWatched-then {start} {s} {later} {old} {mid} {new} {told} {turns} {m} {w} {next} first f tell more result then = record {
    logged = fair.more old mid new told (tell start.seed m) result first.logged
        (subst (λ (l : List A). logs mid new l result) (ap₂ tell first.stands.seed first.stands.moment) then.logged);
    stands = on_ok-then result (IsAtMoment-then first.stands f) then.stands;
    place = on_ok-then result (λ (later_place : later.place ≤ s.place + more). let e : later.place ≤ start.place + (turns + more) = omega (arith, later_place, first.place) in e) then.place;
    room = on_ok-then result (λ (goes : (left : ℕ) → ready mid (left + more) → ready new left) left has.
        goes left (first.room (left + more) (subst (ready old) (let e : left + (turns + more) ≡ (left + more) + turns = omega arith in e) has))) then.room;
  }

  -- reports may be written in a different form, and so may the moments to which they lead
  pub IsWatched-as : {start s : SeedAndPlace} {old new : Log} {told other : List A} {turns n : ℕ} {m then : Moment} {w : World} {result : Result (Unit {0}) Stop} → told ≡ other → turns ≡ n → m ≡ then
      → IsWatched logs ready minds start old new told turns m w s result → IsWatched logs ready minds start old new other n then w s result
  IsWatched-as {start} {s} {old} {new} {told} {other} {turns} {n} {m} {then} {w} {result} same count led watched =
      subst (λ (l : List A). IsWatched logs ready minds start old new l n then w s result) same
      (subst (λ (k : ℕ). IsWatched logs ready minds start old new told k then w s result) count
      (subst (λ (end : Moment). IsWatched logs ready minds start old new told turns end w s result) led watched))

  -- a log with room for some turns has room for fewer
  pub ready-fewer : (log : Log) (most turns : ℕ) → ready log most → turns ≤ most → ready log turns
  ready-fewer log most turns has few = fair.fewer log turns (most - turns) (subst (ready log) (let e : most ≡ turns + (most - turns) = omega (arith, few) in e) has)

  -- there may be room for more turns
  pub IsWatched-within : {start s : SeedAndPlace} {old new : Log} {told : List A} {turns : ℕ} {m : Moment} {w : World} {result : Result (Unit {0}) Stop} → IsWatched logs ready minds start old new told turns m w s result
      → (most : ℕ) → turns ≤ most → IsWatched logs ready minds start old new told most m w s result
  IsWatched-within {start} {s} {old} {new} {told} {turns} {m} {w} {result} watched most within = record {
    logged = watched.logged;
    stands = watched.stands;
    place = on_ok-then result (λ (few : s.place ≤ start.place + turns). let e : s.place ≤ start.place + most = omega (arith, few, within) in e) watched.place;
    room = on_ok-then result (λ (goes : (left : ℕ) → ready old (left + turns) → ready new left) left has.
        goes left (fair.fewer old (left + turns) (most - turns) (subst (ready old) (let e : left + most ≡ (left + turns) + (most - turns) = omega (arith, within) in e) has))) watched.room;
  }

  -- a game that was ended is ended, whatever comes after it
  pub IsWatched-front : {start s : SeedAndPlace} {old new : Log} {told : List A} {turns : ℕ} {m : Moment} {w : World} {stop : Stop} → IsWatched logs ready minds start old new told turns m w s (Err stop)
      → (rest : List A) (all : ℕ) (end : Moment) → IsWatched logs ready minds start old new (told ++ rest) all end w s (Err stop)
  IsWatched-front {start} {s} {old} {new} {told} {turns} {m} {w} {stop} ended rest all end = record { logged = fair.front old new told rest stop ended.logged; stands = tt; place = tt; room = tt }

  module _ (tell : ℕ → Telling A) (start : SeedAndPlace) (w₀ : World) where
    -- the turns of the ids up to one, and then up to another
    pub IsWatched-turns : {k : ℕ} {old mid new : Log} {w next : World} {s later : SeedAndPlace}
        → IsWatched logs ready minds start old mid (told_in_turns (tell start.seed) minds start.seed (moment_of w₀ start) 0 k) k (after_turns minds start.seed (moment_of w₀ start) 0 k) w s (Ok tt)
        → (to : ℕ) → k ≤ to → (result : Result (Unit {0}) Stop)
        → IsWatched logs ready minds s mid new (told_in_turns (tell s.seed) minds s.seed (moment_of w s) k (to - k)) (to - k) (after_turns minds s.seed (moment_of w s) k (to - k)) next later result
        → IsWatched logs ready minds start old new (told_in_turns (tell start.seed) minds start.seed (moment_of w₀ start) 0 to) to (after_turns minds start.seed (moment_of w₀ start) 0 to) next later result
    IsWatched-turns {k} {old} {mid} {new} {w} {next} {s} {later} first to onward result then =
        let m : Moment = moment_of w₀ start in
        let all : k + (to - k) ≡ to = omega (arith, onward) in
        let from_zero : k ≡ 0 + k = omega arith in
        let told : told_in_turns (tell start.seed) minds start.seed m 0 k ++ told_in_turns (tell start.seed) minds start.seed (after_turns minds start.seed m 0 k) k (to - k) ≡ told_in_turns (tell start.seed) minds start.seed m 0 to =
        ap (λ t. told_in_turns (tell start.seed) minds start.seed m 0 k ++ told_in_turns (tell start.seed) minds start.seed (after_turns minds start.seed m 0 k) t (to - k)) from_zero
        ∙ sym (told_in_turns-then minds start.seed (tell start.seed) m 0 k (to - k))
        ∙ ap (told_in_turns (tell start.seed) minds start.seed m 0) all in
        let led : after_turns minds start.seed (after_turns minds start.seed m 0 k) k (to - k) ≡ after_turns minds start.seed m 0 to =
        ap (λ t. after_turns minds start.seed (after_turns minds start.seed m 0 k) t (to - k)) from_zero
        ∙ after_turns-then minds start.seed m 0 k (to - k)
        ∙ ap (after_turns minds start.seed m 0) all in
        IsWatched-as told all led (IsWatched-then first (λ seed now. after_turns minds seed now k (to - k)) (λ seed now. told_in_turns (tell seed) minds seed now k (to - k)) (to - k) result then)

    -- if the game is ended in some of a round's turns, it is ended in all of them
    pub IsWatched-ended : {k : ℕ} {old new : Log} {w : World} {s : SeedAndPlace} {stop : Stop}
        → IsWatched logs ready minds start old new (told_in_turns (tell start.seed) minds start.seed (moment_of w₀ start) 0 k) k (after_turns minds start.seed (moment_of w₀ start) 0 k) w s (Err stop)
        → (n : ℕ) → k ≤ n → (all : ℕ) (end : Moment)
        → IsWatched logs ready minds start old new (told_in_turns (tell start.seed) minds start.seed (moment_of w₀ start) 0 n) all end w s (Err stop)
    IsWatched-ended {k} {old} {new} {w} {s} {stop} ended n early all end =
        let rest = told_in_turns-front minds start.seed (tell start.seed) (moment_of w₀ start) 0 k n early in
        subst (λ (l : List A). IsWatched logs ready minds start old new l all end w s (Err stop)) (sym rest.1) (IsWatched-front ended rest.0 all end)

    -- the round is over where each id had its turn
    pub IsWatched-round : {k : ℕ} {old new : Log} {w : World} {s : SeedAndPlace} → IsWatched logs ready minds start old new (told_in_turns (tell start.seed) minds start.seed (moment_of w₀ start) 0 k) k (after_turns minds start.seed (moment_of w₀ start) 0 k) w s (Ok tt)
        → k ≡ w₀.ids → w₀.ids ≤ most_ants → IsWatched logs ready minds start old new (told_in_round (tell start.seed) minds start.seed (moment_of w₀ start)) most_ants (after_round minds start.seed (moment_of w₀ start)) w s (Ok tt)
    unfolding after_round
    IsWatched-round {k} {old} {new} {w} {s} watched all few =
        IsWatched-within
        (subst (λ (n : ℕ). IsWatched logs ready minds start old new (told_in_turns (tell start.seed) minds start.seed (moment_of w₀ start) 0 n) n (after_turns minds start.seed (moment_of w₀ start) 0 n) w s (Ok tt)) all watched)
        most_ants few

-- of listed ids some had their turns before who watches, and some are left
pub record IsListing {A Log Stop : Type 0} (logs : Log → Log → List A → Result (Unit {0}) Stop → Type 0) (ready : Log → ℕ → Type 0) (minds : Minds) (tell : ℕ → Telling A) (start : SeedAndPlace) (w₀ : World) (old : Log) (ids left : List ℕ) (turns : ℕ)
    (now : Log) (w : World) (s : SeedAndPlace) : Type 0 where
  pub moment : after_listed minds start.seed (moment_of w s) left ≡ after_listed minds start.seed (moment_of w₀ start) ids
  pub seed : s.seed ≡ start.seed
  pub fits : Fits w minds
  pub up : AreUp w left
  pub place : s.place ≤ start.place + turns
  pub done : List A
  pub logged : logs old now done (Ok tt)
  pub whole : told_in_listed (tell start.seed) minds start.seed (moment_of w₀ start) ids ≡ done ++ told_in_listed (tell start.seed) minds start.seed (moment_of w s) left
  pub room : (more : ℕ) → ready old (more + turns) → ready now more

module _ {A Log Stop : Type 0} {telling : ℕ → Telling A} {logs : Log → Log → List A → Result (Unit {0}) Stop → Type 0} {ready : Log → ℕ → Type 0} (fair : IsFair telling logs ready) (minds : Minds) (tell : ℕ → Telling A) where
  -- all are left
  pub IsListing-none : (start : SeedAndPlace) (w : World) (log : Log) (ids : List ℕ) → Fits w minds → AreUp w ids → IsListing logs ready minds tell start w log ids ids 0 log w start
  IsListing-none start w log ids fits up = record {
    moment = refl;
    seed = refl;
    fits = fits;
    up = up;
    place = omega arith;
    done = [];
    logged = fair.none log;
    whole = refl;
    room = λ more has. fair.fewer log more 0 has;
  }

  module _ {start s : SeedAndPlace} {w₀ w : World} {old mid : Log} {ids : List ℕ} {t : ℕ} {left : List ℕ} {turns : ℕ} (listing : IsListing logs ready minds tell start w₀ old ids (t ∷ left) turns mid w s) where
    -- the next one had its turn
    pub IsListing-more : {new : Log} {next : World} {later : SeedAndPlace} → IsWatched logs ready minds s mid new (tell s.seed (moment_of w s) t) 1 (after_turn minds s.seed (moment_of w s) t) next later (Ok tt)
        → IsListing logs ready minds tell start w₀ old ids left (turns + 1) new next later
    IsListing-more {new} {next} {later} then =
        let here : Moment = moment_of w s in
        let now : moment_of next later ≡ after_turn minds start.seed here t = then.stands.moment ∙ ap (λ (seed : ℕ). after_turn minds seed here t) listing.seed in
        let rest : List A = told_in_listed (tell start.seed) minds start.seed (moment_of next later) left in
        let few : later.place ≤ s.place + 1 = then.place in
        let so_far : s.place ≤ start.place + turns = listing.place in
        record {
          moment = ap (λ (m : Moment). after_listed minds start.seed m left) now ∙ listing.moment;
          seed = then.stands.seed ∙ listing.seed;
          fits = then.stands.fit;
          up = subst (λ (m : Moment). AreUp m.world left) (sym now) (AreUp-next minds start.seed here t left listing.up);
          place = omega (arith, few, so_far);
          done = listing.done ++ tell start.seed here t;
          logged = fair.more old mid new listing.done (tell start.seed here t) (Ok tt) listing.logged (subst (λ (seed : ℕ). logs mid new (tell seed here t) (Ok tt)) listing.seed then.logged);
          whole =
              listing.whole
              ∙ ap (λ (m : Moment). listing.done ++ (tell start.seed here t ++ told_in_listed (tell start.seed) minds start.seed m left)) (sym now)
              ∙ sym (append_assoc listing.done (tell start.seed here t) rest);
          room = λ more has. then.room more (listing.room (more + 1) (subst (ready old) (let e : more + (turns + 1) ≡ (more + 1) + turns = omega arith in e) has));
        }

    -- the game is ended in its turn
    pub IsListing-ended : {new : Log} {next : World} {later : SeedAndPlace} {stop : Stop} → IsWatched logs ready minds s mid new (tell s.seed (moment_of w s) t) 1 (after_turn minds s.seed (moment_of w s) t) next later (Err stop)
        → (all : ℕ) (end : Moment) → IsWatched logs ready minds start old new (told_in_listed (tell start.seed) minds start.seed (moment_of w₀ start) ids) all end next later (Err stop)
    IsListing-ended {new} {next} {later} {stop} ended all end =
        let here : Moment = moment_of w s in
        let rest : List A = told_in_listed (tell start.seed) minds start.seed (after_turn minds start.seed here t) left in
        record {
          logged = subst (λ (l : List A). logs old new l (Err stop)) (append_assoc listing.done (tell start.seed here t) rest ∙ sym listing.whole)
              (fair.front old new (listing.done ++ tell start.seed here t) rest stop
              (fair.more old mid new listing.done (tell start.seed here t) (Err stop) listing.logged (subst (λ (seed : ℕ). logs mid new (tell seed here t) (Err stop)) listing.seed ended.logged)));
          stands = tt;
          place = tt;
          room = tt;
        }

  -- each had its turn
  pub IsListing-all : {start s : SeedAndPlace} {w₀ w : World} {old now : Log} {ids : List ℕ} {turns : ℕ} → IsListing logs ready minds tell start w₀ old ids [] turns now w s
      → IsWatched logs ready minds start old now (told_in_listed (tell start.seed) minds start.seed (moment_of w₀ start) ids) turns (after_listed minds start.seed (moment_of w₀ start) ids) w s (Ok tt)
  IsListing-all {start} {s} {w₀} {w} {old} {now} {ids} {turns} listing = record {
    logged = subst (λ (l : List A). logs old now l (Ok tt)) (sym (append-nil listing.done) ∙ sym listing.whole) listing.logged;
    stands = record { moment = listing.moment; seed = listing.seed; fit = listing.fits };
    place = listing.place;
    room = listing.room;
  }

-- rounds before who watches
module _ {A Log Stop : Type 0} {telling : ℕ → Telling A} {logs : Log → Log → List A → Result (Unit {0}) Stop → Type 0} {ready : Log → ℕ → Type 0} (fair : IsFair telling logs ready) (minds : Minds) (tell : ℕ → ℕ → Telling A) (start : SeedAndPlace) (w₀ : World) where
  -- one more
  pub IsWatched-rounds : (k : ℕ) {old mid new : Log} {w next : World} {s later : SeedAndPlace}
      → IsWatched logs ready minds start old mid (told_in_rounds (tell start.seed) minds start.seed (moment_of w₀ start) k) (k * most_ants) (after_rounds minds start.seed (moment_of w₀ start) k) w s (Ok tt)
      → (result : Result (Unit {0}) Stop)
      → IsWatched logs ready minds s mid new (told_in_round (tell s.seed (k + 1)) minds s.seed (moment_of w s)) most_ants (after_round minds s.seed (moment_of w s)) next later result
      → IsWatched logs ready minds start old new (told_in_rounds (tell start.seed) minds start.seed (moment_of w₀ start) (k + 1)) ((k + 1) * most_ants) (after_rounds minds start.seed (moment_of w₀ start) (k + 1)) next later result
  IsWatched-rounds k {old} {mid} {new} {w} {next} {s} {later} first result then =
      IsWatched-as fair minds (sym (told_in_rounds-more minds start.seed (tell start.seed) (moment_of w₀ start) k)) (let e : k * most_ants + most_ants ≡ (k + 1) * most_ants = omega arith in e) (sym (after_rounds-more minds start.seed (moment_of w₀ start) k))
      (IsWatched-then fair minds first (λ seed now. after_round minds seed now) (λ seed now. told_in_round (tell seed (k + 1)) minds seed now) most_ants result then)

  -- if the game is ended in some of the rounds, it is ended in all
  pub IsWatched-broken : (k : ℕ) {old new : Log} {w : World} {s : SeedAndPlace} {stop : Stop} {turns : ℕ} {m : Moment}
      → IsWatched logs ready minds start old new (told_in_rounds (tell start.seed) minds start.seed (moment_of w₀ start) k) turns m w s (Err stop)
      → (n : ℕ) → k ≤ n → (all : ℕ) (end : Moment)
      → IsWatched logs ready minds start old new (told_in_rounds (tell start.seed) minds start.seed (moment_of w₀ start) n) all end w s (Err stop)
  IsWatched-broken k {old} {new} {w} {s} {stop} ended n early all end =
      let rest = told_in_rounds-front minds start.seed (tell start.seed) (moment_of w₀ start) k n early in
      subst (λ (l : List A). IsWatched logs ready minds start old new l all end w s (Err stop)) (sym rest.1) (IsWatched-front fair minds ended rest.0 all end)

-- before nobody it is fair
pub nobody-fair : IsFair {A = ⊤} {Log = ⊤} {Stop = ⊤} (λ _ _ _. []) (λ _ _ _ result. IsTrue (is_ok result)) (λ _ _. ⊤)
nobody-fair = record {
  ignores = λ _. record { dead = λ _ _ _. refl; resting = λ _ _ _ _ _ _ _ _. refl; others = λ _ _ _ _. refl };
  none = λ _. refl;
  more = λ _ _ _ _ _ _ _ p. p;
  front = λ _ _ _ _ _ p. p;
  fewer = λ _ _ _ _. tt;
}
