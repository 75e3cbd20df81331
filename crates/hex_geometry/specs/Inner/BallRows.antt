-- The positions of a ball, row by row.
use Rattle.std.specs.Prelude.{ℕ, zero, suc, ◌+◌, ◌-◌, ◌*◌, ◌/◌, ◌≤◌, List, [], ◌∷◌, ◌++◌}
use Rattle.std.specs.Int.{abs_diff}
use Rattle.hex_geometry.specs.declared.position.Pos.{Pos}

-- a row that the ball reaches
pub record IsBallRow (centre : Pos) (radius y : ℕ) : Type 0 where
  pub low : centre.y ≤ y + radius
  pub high : y ≤ centre.y + radius

-- the first column of the ball in row y
abbrev pub first_column : Pos → ℕ → ℕ → ℕ
first_column centre radius y = (centre.x + y / 2 + (centre.y - y)) - (centre.y / 2 + radius)

-- how many columns it has in that row
abbrev pub column_count : Pos → ℕ → ℕ → ℕ
column_count centre radius y = 2 * radius + 1 - abs_diff centre.y y

-- the given number of positions of row y, from column x on
unfoldable pub line : ℕ → ℕ → ℕ → List Pos
line x y zero = []
line x y (suc n) = line x y n ++ record { x = x + n; y = y } ∷ []

-- the first n rows of the ball
unfoldable pub rows : Pos → ℕ → ℕ → List Pos
rows centre radius zero = []
rows centre radius (suc n) =
    rows centre radius n
    ++ line (first_column centre radius (centre.y - radius + n)) (centre.y - radius + n)
    (column_count centre radius (centre.y - radius + n))
