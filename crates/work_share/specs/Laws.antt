-- What pieces of a row are together (this project's own).
use Rattle.std.specs.Prelude.{◌≡◌, ℕ, ◌+◌, ◌-◌, ◌/◌, ◌<◌, ◌≤◌}
use Rattle.work_share.specs.Borders.{border}

-- the borders begin where the row does, don't fall, and end where the row does
pub record IsRow (workers n : ℕ) : Type 0 where
  pub first : border workers n 0 ≡ 0
  pub rises : (k : ℕ) → border workers n k ≤ border workers n (k + 1)
  pub last : border workers n workers ≡ n

abbrev pub PiecesAreTheRow : Type 0
PiecesAreTheRow = (workers n : ℕ) → 0 < workers → IsRow workers n

-- each piece has the number of tasks divided by that of workers, rounded down, or one more
pub record IsEven (workers n k : ℕ) : Type 0 where
  pub least : n / workers ≤ border workers n (k + 1) - border workers n k
  pub most : border workers n (k + 1) - border workers n k ≤ n / workers + 1

abbrev pub PiecesAreEven : Type 0
PiecesAreEven = (workers n k : ℕ) → 0 < workers → IsEven workers n k
