-- The limits of worlds (this project's own).
use Rattle.std.specs.Prelude.{ℕ}

-- the least width and height
abbrev pub least_size : ℕ
least_size = 3

-- the greatest width and height
abbrev pub most_size : ℕ
most_size = 512

-- the most ids of ants in a world
abbrev pub most_ants : ℕ
most_ants = 16384

-- the greatest weight of a world: nine times the 510 by 510 cells inside the largest rim
abbrev pub most_weight : ℕ
most_weight = 2340900
