-- Directions by number, and turning (the task's geometry).
use Rattle.std.specs.Prelude.{ℕ, ◌+◌, ◌%◌, List, [], ◌∷◌, slice_index_or}
use Rattle.hex_geometry.specs.declared.direction.Dir.{Dir}
use Rattle.hex_geometry.specs.declared.direction.Dir.TheVariants.{East, SouthEast, SouthWest, West, NorthWest, NorthEast}
use Rattle.hex_geometry.specs.declared.direction.Side.{Side}
use Rattle.hex_geometry.specs.declared.direction.Side.TheVariants.{Left, Right}

-- the number of a direction, clockwise from 0, which is to the right
abbrev pub number_of : Dir → ℕ
number_of East = 0
number_of SouthEast = 1
number_of SouthWest = 2
number_of West = 3
number_of NorthWest = 4
number_of NorthEast = 5

-- the direction with a number below 6: the entry with that number in this list, which is NorthEast for 5
abbrev pub dir_of : ℕ → Dir
dir_of number = slice_index_or (East ∷ SouthEast ∷ SouthWest ∷ West ∷ NorthWest ∷ []) number NorthEast

-- the six directions, by number
unfoldable pub directions : List Dir
directions = East ∷ SouthEast ∷ SouthWest ∷ West ∷ NorthWest ∷ NorthEast ∷ []

-- the direction after a turn to a side: the number rises by 1 for right, and falls by 1 for left, modulo 6
unfoldable pub turned_by : Dir → Side → Dir
turned_by d Left = dir_of ((number_of d + 5) % 6)
turned_by d Right = dir_of ((number_of d + 1) % 6)

-- the opposite direction, half a turn away
unfoldable pub opposite : Dir → Dir
opposite d = dir_of ((number_of d + 3) % 6)
