-- Columns along slanting lines, from which the code computes distances.
use Rattle.std.specs.Prelude.{ℕ, ◌+◌, ◌-◌, ◌/◌}
use Rattle.hex_geometry.specs.declared.position.Pos.{Pos}

-- the column counted along a line that slants to the left going down, from a start to the left of every position
abbrev pub slant_of : Pos → ℕ
slant_of p = p.x + 32768 - p.y / 2
