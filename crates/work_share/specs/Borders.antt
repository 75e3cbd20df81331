-- Where the pieces of a row begin (this project's own).
use Rattle.std.specs.Prelude.{ℕ, ◌*◌, ◌/◌}

-- where the piece of worker k begins in a row of n tasks; the piece of worker k - 1 ends there
abbrev pub border : (workers n k : ℕ) → ℕ
border workers n k = k * n / workers
