-- The stream of random numbers (the task's number generation).
use Rattle.std.specs.Prelude.{ℕ, zero, suc, ◌+◌, ◌*◌, ◌/◌, ◌%◌}

-- what a contract sees of a stream: its seed, and how many numbers were drawn from it
pub record SeedAndPlace : Type 0 where
  pub seed : ℕ
  pub place : ℕ

-- s(i), the i-th state of a seed's stream, over unbounded whole numbers (number generation)
unfoldable pub state_at : ℕ → ℕ → ℕ
state_at seed zero = seed
state_at seed (suc i) = state_at seed i * 22695477 + 1

-- x(i), the i-th random number of a seed's stream, which is below 16384 (number generation)
unfoldable pub random_at : ℕ → ℕ → ℕ
random_at seed i = state_at seed (i + 4) / 65536 % 16384

-- what a draw below n returns at a place of a seed's stream (number generation)
unfoldable pub drawn : ℕ → ℕ → ℕ → ℕ
drawn seed place n = random_at seed place % n
