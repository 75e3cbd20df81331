-- What a contract sees of a crew of workers (this project's own).
use Rattle.std.specs.Prelude.{ℕ, ◌≤◌}

-- the most workers in a crew, and the most other seats that a board's first seat makes
abbrev pub most_workers : ℕ
most_workers = 16

-- a crew can have this number of workers
abbrev pub IsCrewSize : ℕ → Type 0
IsCrewSize workers = (1 ≤ workers) × (workers ≤ most_workers)

-- how many workers it has, and how many turns it has played
pub record CrewValue : Type 0 where
  pub workers : ℕ
  pub turns : ℕ
