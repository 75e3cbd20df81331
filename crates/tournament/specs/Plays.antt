-- A function that plays lists of games (this project's own).
use Rattle.std.specs.Prelude.{◌≡◌, ℕ, ◌<◌, ◌≤◌, ◌^◌, List, All, Result, Vec, IfOk, length, map}
use Rattle.std.specs.Borrow.{Bor}
use Rattle.std.specs.Fn.{Shared}
use Rattle.ant_base.specs.declared.memory.OutOfMemory.{OutOfMemory}
use Rattle.cell_world.specs.declared.score.Score.{Score}
use Rattle.tournament.specs.declared.games.Pairing.{Pairing}
use Rattle.tournament.specs.declared.games.Played.{Played}
use Rattle.tournament.specs.Games.{played_by}

-- the referee knows each game of the list
abbrev pub AreKnown : (ℕ → ℕ → ℕ → Type 0) → List Pairing → Type 0
AreKnown knows games = All (λ game. knows game.world game.red game.black) games

-- fewer than 2^30 games that the referee knows, for 1 to 16 workers
pub record CanBePlayedBy (workers : ℕ) (knows : ℕ → ℕ → ℕ → Type 0) (games : List Pairing) : Type 0 where
  pub few : length games < 2 ^ 30
  pub worker : 1 ≤ workers
  pub few_workers : workers ≤ 16
  pub known : AreKnown knows games

-- the games are played, each with the referee's score
abbrev pub ArePlayed : {A : Type 0} → (ℕ → ℕ → ℕ → Score) → List Pairing → Result (Vec Played A) OutOfMemory → Type 0
ArePlayed score games result = IfOk result (λ played. played.items ≡ map (played_by score) games)

module _ {P F A : Type 0}
    (g : Shared P (Bor F × (Bor (List Pairing) × (ℕ × Unit {0}))) (Result (Vec Played A) OutOfMemory))
    (knows : F → ℕ → ℕ → ℕ → Type 0) (score : F → ℕ → ℕ → ℕ → Score) where
  -- a function may be called for any games that can be played by this many workers, and each result has them with their
  -- scores
  pub record PlaysGames (play : P) : Type 0 where
    pub may : (referee : Bor F) (games : Bor (List Pairing)) (workers : ℕ)
        → CanBePlayedBy workers (knows referee.now) games.now → g.pre play (referee, (games, (workers, tt)))
    pub plays : (referee : Bor F) (games : Bor (List Pairing)) (workers : ℕ)
        (result : Result (Vec Played A) OutOfMemory)
        → CanBePlayedBy workers (knows referee.now) games.now
        → g.post play (referee, (games, (workers, tt))) result → ArePlayed (score referee.now) games.now result
