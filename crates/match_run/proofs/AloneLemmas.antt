-- Turns and rounds, one after another.
use Rattle.std.proofs.Common.{◌≡◌, ℕ, ◌+◌, ◌≤◌, refl, sym, ◌∙◌, ap, ap₂, arith}
use Rattle.ant_random.specs.Stream.{SeedAndPlace}
use Rattle.cell_world.specs.Cell.{one_if}
use Rattle.cell_world.specs.Grid.{Grid, world_of}
use Rattle.cell_world.specs.World.{with_cells}
use Rattle.ant_turn.specs.Minds.{Minds, Fits}
use Rattle.ant_turn.specs.Rounds.{Moment, after_turn, after_turns, after_round, after_rounds}
use Rattle.ant_turn.specs.Turn.{turn}
use Rattle.ant_turn.proofs.KeptByRounds.{after_turns-ids, after_turns-more, after_turns-place, after_rounds-then}
use Rattle.round_book.proofs.BookLemmas.{moment_at}
use Rattle.match_run.specs.Alone.{IsPlayedOn, GameAloneValue, standing}
use Rattle.match_run.specs.Inner.Alone.{moment_from}

-- a world and a stream are those after this many turns of a round that starts with others
pub record IsTaken (minds : Minds) (first : Grid) (start : SeedAndPlace) (turns : ℕ) (grid : Grid) (stream : SeedAndPlace) : Type 0 where
  pub moment : moment_from grid stream ≡ after_turns minds start.seed (moment_from first start) 0 turns
  pub seed : stream.seed ≡ start.seed
  pub fits : Fits (world_of grid) minds

-- no turn is taken
pub IsTaken-none : (minds : Minds) (first : Grid) (start : SeedAndPlace) → Fits (world_of first) minds → IsTaken minds first start 0 first start
IsTaken-none minds first start fits = record { moment = refl; seed = refl; fits = fits }

-- a turn takes one number at most
pub IsTaken-place : {minds : Minds} {first : Grid} {start : SeedAndPlace} {turns : ℕ} {grid : Grid} {stream : SeedAndPlace} → IsTaken minds first start turns grid stream → stream.place ≤ start.place + turns
IsTaken-place {minds} {first} {start} {turns} {grid} {stream} taken =
    let within = after_turns-place minds start.seed (moment_from first start) 0 turns in
    rw (ap (λ (m : Moment). m.place) taken.moment) within.to

-- turns make no id
pub IsTaken-ids : {minds : Minds} {first : Grid} {start : SeedAndPlace} {turns : ℕ} {grid : Grid} {stream : SeedAndPlace} → IsTaken minds first start turns grid stream → grid.ids ≡ first.ids
IsTaken-ids {minds} {first} {start} {turns} {grid} {stream} taken =
    ap (λ (m : Moment). m.world.ids) taken.moment ∙ after_turns-ids minds start.seed (moment_from first start) 0 turns

-- what a turn makes of a world and a stream is what it makes of their moment
pub moment-turn : (minds : Minds) (grid next : Grid) (stream later : SeedAndPlace) (t : ℕ)
    → world_of next ≡ with_cells (world_of grid) (turn minds stream.seed (world_of grid) stream.place t).cells
    → later ≡ record stream { place = stream.place + one_if (turn minds stream.seed (world_of grid) stream.place t).drew }
    → moment_from next later ≡ after_turn minds stream.seed (moment_from grid stream) t
unfolding after_turn
moment-turn minds grid next stream later t world place = ap₂ moment_at world (ap (λ (s : SeedAndPlace). s.place) place)

-- one turn more is taken
pub IsTaken-more : {minds : Minds} {first : Grid} {start : SeedAndPlace} {turns : ℕ} {grid : Grid} {stream : SeedAndPlace} → IsTaken minds first start turns grid stream → (next : Grid) (later : SeedAndPlace)
    → world_of next ≡ with_cells (world_of grid) (turn minds stream.seed (world_of grid) stream.place turns).cells
    → later ≡ record stream { place = stream.place + one_if (turn minds stream.seed (world_of grid) stream.place turns).drew }
    → Fits (world_of next) minds → IsTaken minds first start (turns + 1) next later
IsTaken-more {minds} {first} {start} {turns} {grid} {stream} taken next later world place fits =
    let from_zero : turns ≡ 0 + turns = omega arith in
    let earlier : Moment = after_turns minds start.seed (moment_from first start) 0 turns in
    record {
      moment =
          moment-turn minds grid next stream later turns world place
          ∙ ap (λ (seed : ℕ). after_turn minds seed (moment_from grid stream) turns) taken.seed
          ∙ ap (λ (m : Moment). after_turn minds start.seed m turns) taken.moment
          ∙ ap (after_turn minds start.seed earlier) from_zero
          ∙ sym (after_turns-more minds start.seed (moment_from first start) 0 turns);
      seed = ap (λ (s : SeedAndPlace). s.seed) place ∙ taken.seed;
      fits = fits;
    }

-- the round is over where each id had its turn
pub IsTaken-all : {minds : Minds} {first : Grid} {start : SeedAndPlace} {turns : ℕ} {grid : Grid} {stream : SeedAndPlace} → IsTaken minds first start turns grid stream → turns ≡ first.ids → moment_from grid stream ≡ after_round minds start.seed (moment_from first start)
unfolding after_round
IsTaken-all {minds} {first} {start} taken all = taken.moment ∙ ap (after_turns minds start.seed (moment_from first start) 0) all

-- no round is played
pub IsPlayedOn-none : (game : GameAloneValue) → IsPlayedOn game game 0
IsPlayedOn-none game = record { now = refl; done = omega arith; minds = refl; seed = refl }

-- some rounds, and then some more
pub IsPlayedOn-then : {old mid : GameAloneValue} {rounds : ℕ} → IsPlayedOn old mid rounds → (new : GameAloneValue) (more : ℕ) → IsPlayedOn mid new more → IsPlayedOn old new (rounds + more)
IsPlayedOn-then {old} {mid} {rounds} played new more later =
    let so_far : mid.done ≡ old.done + rounds = played.done in
    let since : new.done ≡ mid.done + more = later.done in
    record {
      now =
          later.now
          ∙ ap₂ (λ (minds : Minds) (seed : ℕ). after_rounds minds seed (standing mid) more) played.minds played.seed
          ∙ ap (λ (m : Moment). after_rounds old.minds old.seed m more) played.now
          ∙ after_rounds-then old.minds old.seed (standing old) rounds more;
      done = omega (arith, so_far, since);
      minds = later.minds ∙ played.minds;
      seed = later.seed ∙ played.seed;
    }

-- the world then is that after these rounds
pub IsPlayedOn-world : {old new : GameAloneValue} {rounds : ℕ} → IsPlayedOn old new rounds → world_of new.world ≡ (after_rounds old.minds old.seed (standing old) rounds).world
IsPlayedOn-world played = ap (λ (m : Moment). m.world) played.now
