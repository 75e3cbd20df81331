-- A list of numbers that grows (this project's own).
use Rattle.std.specs.Prelude.{ℕ, List}

-- the numbers, in the order in which they were added; and how many more can be added before the list is full and needs
-- memory
pub record NumberList : Type 0 where
  pub numbers : List ℕ
  pub spare : ℕ
