-- The watch of a game (this project's own).
use Rattle.std.specs.Prelude.{◌≡◌, ℕ, ◌+◌, ◌≤◌, List, [], ◌++◌, Some, None, Result, Ok, Err, OnOk}
use Rattle.hex_geometry.specs.declared.position.Pos.{Pos}
use Rattle.ant_random.specs.Stream.{SeedAndPlace}
use Rattle.ant_turn.specs.Minds.{Fits, Minds}
use Rattle.ant_turn.specs.Rounds.{Moment}
use Rattle.cell_world.specs.declared.ant.Ant.{Ant}
use Rattle.cell_world.specs.Resting.{with_rests}
use Rattle.cell_world.specs.World.{World, place_in}
use Rattle.match_run.specs.Told.{Telling}

-- an idle turn has no report, and the report of another turn doesn't depend on how long other ants rest
pub record IgnoresRest {A : Type 0} (telling : Telling A) : Type 0 where
  pub dead : (m : Moment) (t : ℕ) → place_in m.world t ≡ None → telling m t ≡ []
  pub resting : (m : Moment) (t : ℕ) (p : Pos) (ant : Ant) (left : ℕ) → place_in m.world t ≡ Some p
      → (m.world.cells p).ant ≡ Some ant → ant.resting ≡ left + 1 → telling m t ≡ []
  pub others : (f : ℕ → ℕ → ℕ) (t : ℕ) → ((n : ℕ) → f t n ≡ n) → (m : Moment)
      → telling (record m { world = with_rests f m.world }) t ≡ telling m t

-- reports don't depend on how long others rest; and a log grows by the reports piece by piece, until the game is ended
-- within a piece, whatever follows it
pub record IsFair {A Log Stop : Type 0} (telling : ℕ → Telling A)
    (logs : Log → Log → List A → Result (Unit {0}) Stop → Type 0) (ready : Log → ℕ → Type 0) : Type 0 where
  pub ignores : (round : ℕ) → IgnoresRest (telling round)
  pub none : (log : Log) → logs log log [] (Ok tt)
  pub more : (old mid new : Log) (told later : List A) (result : Result (Unit {0}) Stop) → logs old mid told (Ok tt)
      → logs mid new later result → logs old new (told ++ later) result
  pub front : (old new : Log) (told later : List A) (stop : Stop) → logs old new told (Err stop)
      → logs old new (told ++ later) (Err stop)
  pub fewer : (log : Log) (turns more : ℕ) → ready log (turns + more) → ready log turns

-- the moment of a world and the stream of its game
abbrev pub moment_of : World → SeedAndPlace → Moment
moment_of w stream = record { world = w; place = stream.place }

-- a world and a stream match a moment of a game, with the seed unchanged
pub record IsAtMoment (minds : Minds) (m : Moment) (before : SeedAndPlace) (w : World)
    (stream : SeedAndPlace) : Type 0 where
  pub moment : moment_of w stream ≡ m
  pub seed : stream.seed ≡ before.seed
  pub fit : Fits w minds

-- some turns were watched: the log has their reports, or the game was ended within them. If it wasn't, its moment is
-- that after the turns, and each of them used at most one random number
pub record IsWatched {A Log Stop : Type 0} (logs : Log → Log → List A → Result (Unit {0}) Stop → Type 0)
    (ready : Log → ℕ → Type 0) (minds : Minds) (start : SeedAndPlace) (old new : Log) (told : List A) (turns : ℕ)
    (m : Moment) (w : World) (stream : SeedAndPlace)
    (result : Result (Unit {0}) Stop) : Type 0 where
  pub logged : logs old new told result
  pub stands : OnOk result (IsAtMoment minds m start w stream)
  pub place : OnOk result (stream.place ≤ start.place + turns)
  pub room : OnOk result ((left : ℕ) → ready old (left + turns) → ready new left)
