-- Rounds of a game that is watched, one after another.
use Rattle.std.proofs.Common.{◌≡◌, ℕ, ◌+◌, ◌*◌, ◌≤◌, sym, ◌∙◌, ap, arith}
use Rattle.ant_random.specs.Stream.{SeedAndPlace}
use Rattle.ant_turn.specs.Minds.{Minds, Fits}
use Rattle.ant_turn.specs.Rounds.{Moment, after_round, after_rounds, start_of}
use Rattle.ant_turn.proofs.KeptByRounds.{after_rounds-more}
use Rattle.cell_world.specs.Grid.{Grid, world_of}
use Rattle.cell_world.specs.Limits.{most_ants}
use Rattle.cell_world.specs.World.{World}
use Rattle.match_run.specs.Inner.Alone.{RoundTaken, moment_from}
use Rattle.match_run.specs.Run.{world_after}
use Rattle.round_book.proofs.BookLemmas.{moment_at}

-- a world and a stream are those after this many rounds of a game that starts in w
pub record IsAfter (minds : Minds) (seed : ℕ) (w : World) (round : ℕ) (grid : Grid) (stream : SeedAndPlace) : Type 0 where
  pub moment : moment_from grid stream ≡ after_rounds minds seed (start_of w) round
  pub same_seed : stream.seed ≡ seed
  pub place : stream.place ≤ round * most_ants
  pub fits : Fits (world_of grid) minds

-- the first rounds are played, from the start on
pub IsAfter-passed : (minds : Minds) (seed : ℕ) (grid : Grid) (stream : SeedAndPlace) (rounds : ℕ) (next : Grid) (later : SeedAndPlace) → stream.seed ≡ seed → stream.place ≡ 0
    → moment_from next later ≡ after_rounds minds stream.seed (moment_from grid stream) rounds → later.seed ≡ stream.seed → later.place ≤ stream.place + rounds * most_ants → Fits (world_of next) minds
    → IsAfter minds seed (world_of grid) rounds next later
IsAfter-passed minds seed grid stream rounds next later same begins passed kept few fits = record {
  moment =
      passed
      ∙ ap (λ (s : ℕ). after_rounds minds s (moment_from grid stream) rounds) same
      ∙ ap (λ (place : ℕ). after_rounds minds seed (moment_at (world_of grid) place) rounds) begins;
  same_seed = kept ∙ same;
  place = omega (arith, few, begins);
  fits = fits;
}

-- one round more is played
pub IsAfter-more : {minds : Minds} {seed : ℕ} {w : World} {round : ℕ} {grid : Grid} {stream : SeedAndPlace} → IsAfter minds seed w round grid stream → (next : Grid) (later : SeedAndPlace)
    → RoundTaken minds grid stream next later → IsAfter minds seed w (round + 1) next later
IsAfter-more {minds} {seed} {w} {round} {grid} {stream} after next later taken =
    let so_far : stream.place ≤ round * most_ants = after.place in
    let few : later.place ≤ stream.place + most_ants = taken.place in
    record {
      moment =
          taken.moment
          ∙ ap (λ (s : ℕ). after_round minds s (moment_from grid stream)) after.same_seed
          ∙ ap (after_round minds seed) after.moment
          ∙ sym (after_rounds-more minds seed (start_of w) round);
      same_seed = taken.seed ∙ after.same_seed;
      place = omega arith;
      fits = taken.fit;
    }

-- the world then is that after these rounds
pub IsAfter-world : {minds : Minds} {seed : ℕ} {w : World} {round : ℕ} {grid : Grid} {stream : SeedAndPlace} → IsAfter minds seed w round grid stream → world_of grid ≡ world_after minds seed w round
unfolding world_after
IsAfter-world after = ap (λ (m : Moment). m.world) after.moment
