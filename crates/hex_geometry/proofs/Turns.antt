-- The laws of directions and of turning.
use Rattle.hex_geometry.specs.Direction.{dir_of, number_of, opposite, turned_by}
use Rattle.hex_geometry.specs.declared.direction.Dir.{Dir}
use Rattle.hex_geometry.specs.declared.direction.Dir.TheVariants.{East, SouthEast, SouthWest, West, NorthWest, NorthEast}
use Rattle.hex_geometry.specs.declared.direction.Side.{Side}
use Rattle.hex_geometry.specs.declared.direction.Side.TheVariants.{Left, Right}
use Rattle.std.proofs.Common.{◌≡◌, ℕ, suc, ◌<◌, refl, arith}
use Rattle.std.specs.Fn.{iterate}

-- a direction's number is below six
pub number_of_below : (d : Dir) → number_of d < 6
number_of_below East = omega arith
number_of_below it = omega arith

-- a direction is the one of its number
pub dir_of_number_of : (d : Dir) → dir_of (number_of d) ≡ d
dir_of_number_of East = refl
dir_of_number_of it = refl

-- a number below six is that of its direction
pub number_of_dir_of : (n : ℕ) → n < 6 → number_of (dir_of n) ≡ n
number_of_dir_of (suc (suc (suc (suc (suc n))))) below = omega arith
number_of_dir_of it below = refl

-- left and then right is as before
pub left_then_right : (d : Dir) → turned_by (turned_by d Left) Right ≡ d
unfolding turned_by
left_then_right East = refl
left_then_right it = refl

-- right and then left is as before
pub right_then_left : (d : Dir) → turned_by (turned_by d Right) Left ≡ d
unfolding turned_by
right_then_left East = refl
right_then_left it = refl

-- six turns to the left are a whole turn
pub six_left : (d : Dir) → iterate (λ e. turned_by e Left) 6 d ≡ d
unfolding turned_by
six_left East = refl
six_left it = refl

-- six turns to the right are a whole turn
pub six_right : (d : Dir) → iterate (λ e. turned_by e Right) 6 d ≡ d
unfolding turned_by
six_right East = refl
six_right it = refl

-- three turns to one side lead to the opposite direction
pub three_turns : (d : Dir) (side : Side) → iterate (λ e. turned_by e side) 3 d ≡ opposite d
unfolding turned_by opposite
three_turns East Left = refl
three_turns SouthEast Left = refl
three_turns SouthWest Left = refl
three_turns West Left = refl
three_turns NorthWest Left = refl
three_turns NorthEast Left = refl
three_turns East Right = refl
three_turns SouthEast Right = refl
three_turns SouthWest Right = refl
three_turns West Right = refl
three_turns NorthWest Right = refl
three_turns NorthEast Right = refl
