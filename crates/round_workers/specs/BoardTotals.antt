-- Totals over the seats of a board, with which "exactly one" and "each once" are stated (this project's own).
use Rattle.std.specs.Prelude.{ℕ, ◌+◌, nat_le, nat_lt, List, [], ◌∷◌}
use Rattle.cell_world.specs.Cell.{one_if}

-- the sum of f over a list
abbrev pub summed : {A : Type 0} → (A → ℕ) → List A → ℕ
summed f [] = 0
summed f (v ∷ vs) = f v + summed f vs

-- 1 if x is below n, otherwise 0
abbrev pub once_below : ℕ → ℕ → ℕ
once_below x n = one_if (nat_lt x n)

-- how many of the numbers are n or above
abbrev pub late_among : ℕ → List ℕ → ℕ
late_among n [] = 0
late_among n (x ∷ xs) = one_if (nat_le n x) + late_among n xs
