-- What a contract sees of the crews of this crate (this project's own).
use Rattle.std.specs.Prelude.{ℕ}

-- a crew of one: how many turns it has played
pub record SoloValue : Type 0 where
  pub turns : ℕ

-- a crew that is a function: the function that plays, and how many turns it has played
pub record LedValue (F : Type 0) : Type 0 where
  pub play : F
  pub turns : ℕ
