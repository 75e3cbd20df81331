-- Which positions are adjacent, and what an ant senses (the task's geometry).
use Rattle.std.specs.Prelude.{◌+◌, ◌-◌, ◌%◌, ℤ, pos, negsuc, ◌+ℤ◌, ◌-ℤ◌, Bool, ◌==◌, if◌then◌else◌, List, map}
use Rattle.hex_geometry.specs.Direction.{directions, turned_by}
use Rattle.hex_geometry.specs.Position.{Point}
use Rattle.hex_geometry.specs.declared.direction.Dir.{Dir}
use Rattle.hex_geometry.specs.declared.direction.Dir.TheVariants.{East, SouthEast, SouthWest, West, NorthWest, NorthEast}
use Rattle.hex_geometry.specs.declared.direction.Side.TheVariants.{Left, Right}
use Rattle.hex_geometry.specs.declared.neighbourhood.Sight.{Sight}
use Rattle.hex_geometry.specs.declared.neighbourhood.Sight.TheVariants.{Here, Ahead, LeftAhead, RightAhead}
use Rattle.hex_geometry.specs.declared.position.Pos.{Pos}

-- whether a whole number is even; the second line is at -1 - n
abbrev pub is_even : ℤ → Bool
is_even (pos n) = n % 2 == 0
is_even (negsuc n) = n % 2 == 1

-- the neighbour of a place in an even row: the table's first column
abbrev pub beside_in_even : ℤ → ℤ → Dir → Point
beside_in_even x y East = record { x = x +ℤ pos 1; y = y }
beside_in_even x y SouthEast = record { x = x; y = y +ℤ pos 1 }
beside_in_even x y SouthWest = record { x = x -ℤ pos 1; y = y +ℤ pos 1 }
beside_in_even x y West = record { x = x -ℤ pos 1; y = y }
beside_in_even x y NorthWest = record { x = x -ℤ pos 1; y = y -ℤ pos 1 }
beside_in_even x y NorthEast = record { x = x; y = y -ℤ pos 1 }

-- the neighbour of a place in an odd row: the table's second column
abbrev pub beside_in_odd : ℤ → ℤ → Dir → Point
beside_in_odd x y East = record { x = x +ℤ pos 1; y = y }
beside_in_odd x y SouthEast = record { x = x +ℤ pos 1; y = y +ℤ pos 1 }
beside_in_odd x y SouthWest = record { x = x; y = y +ℤ pos 1 }
beside_in_odd x y West = record { x = x -ℤ pos 1; y = y }
beside_in_odd x y NorthWest = record { x = x; y = y -ℤ pos 1 }
beside_in_odd x y NorthEast = record { x = x +ℤ pos 1; y = y -ℤ pos 1 }

-- the neighbour in a direction, over all pairs of whole numbers: the table
unfoldable pub adjacent_point : Point → Dir → Point
adjacent_point p d = if is_even p.y then beside_in_even p.x p.y d else beside_in_odd p.x p.y d

-- the neighbour of a position in a direction: an odd row is shifted half a cell to the right. No ant is ever in column
-- or row 0, where this would be wrong
unfoldable pub adjacent_pos : Pos → Dir → Pos
adjacent_pos p East = record { x = p.x + 1; y = p.y }
adjacent_pos p SouthEast = record { x = p.x + p.y % 2; y = p.y + 1 }
adjacent_pos p SouthWest = record { x = p.x + p.y % 2 - 1; y = p.y + 1 }
adjacent_pos p West = record { x = p.x - 1; y = p.y }
adjacent_pos p NorthWest = record { x = p.x + p.y % 2 - 1; y = p.y - 1 }
adjacent_pos p NorthEast = record { x = p.x + p.y % 2; y = p.y - 1 }

-- the position that an ant senses
unfoldable pub sensed_pos : Pos → Dir → Sight → Pos
sensed_pos p _ Here = p
sensed_pos p d Ahead = adjacent_pos p d
sensed_pos p d LeftAhead = adjacent_pos p (turned_by d Left)
sensed_pos p d RightAhead = adjacent_pos p (turned_by d Right)

-- the six neighbours, in the order of directions
unfoldable pub neighbours_of : Pos → List Pos
neighbours_of p = map (adjacent_pos p) directions
