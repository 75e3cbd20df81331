-- The place of each word in its table.
use Rattle.std.specs.Prelude.{ℕ}
use Rattle.hex_geometry.specs.declared.direction.Side.{Side}
use Rattle.hex_geometry.specs.declared.direction.Side.TheVariants.{Left, Right}
use Rattle.hex_geometry.specs.declared.neighbourhood.Sight.{Sight}
use Rattle.hex_geometry.specs.declared.neighbourhood.Sight.TheVariants.{Here, Ahead, LeftAhead, RightAhead}
use Rattle.brain_read.specs.declared.form.Form.{Form}
use Rattle.brain_read.specs.declared.form.ConditionWord.{ConditionWord}

-- the place of a form's word in its table
abbrev pub place_of_form : Form → ℕ
place_of_form Form.Sense = 0
place_of_form Form.Mark = 1
place_of_form Form.Unmark = 2
place_of_form Form.PickUp = 3
place_of_form Form.Drop = 4
place_of_form Form.Turn = 5
place_of_form Form.Move = 6
place_of_form Form.Flip = 7

-- the place of a sight's word in its table
abbrev pub place_of_sight : Sight → ℕ
place_of_sight Here = 0
place_of_sight Ahead = 1
place_of_sight LeftAhead = 2
place_of_sight RightAhead = 3

-- the place of a side's word in its table
abbrev pub place_of_side : Side → ℕ
place_of_side Left = 0
place_of_side Right = 1

-- the place of the word of a condition in its table
abbrev pub place_of_condition : ConditionWord → ℕ
place_of_condition ConditionWord.Friend = 0
place_of_condition ConditionWord.Foe = 1
place_of_condition ConditionWord.FriendWithFood = 2
place_of_condition ConditionWord.FoeWithFood = 3
place_of_condition ConditionWord.Food = 4
place_of_condition ConditionWord.Rock = 5
place_of_condition ConditionWord.Marker = 6
place_of_condition ConditionWord.FoeMarker = 7
place_of_condition ConditionWord.Home = 8
place_of_condition ConditionWord.FoeHome = 9
