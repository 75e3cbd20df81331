-- The meaning of each place of the tables of words. The clauses of `positions` and `form_at` use it; those of
-- `read_brain` and `write_brain` don't (this project's own).
use Rattle.std.specs.Prelude.{ℕ, if◌then◌else◌, ◌==◌}
use Rattle.hex_geometry.specs.declared.direction.Side.{Side}
use Rattle.hex_geometry.specs.declared.direction.Side.TheVariants.{Left, Right}
use Rattle.hex_geometry.specs.declared.neighbourhood.Sight.{Sight}
use Rattle.hex_geometry.specs.declared.neighbourhood.Sight.TheVariants.{Here, Ahead, LeftAhead, RightAhead}
use Rattle.brain_read.specs.declared.form.ConditionWord.{ConditionWord}
use Rattle.brain_read.specs.declared.form.Form.{Form}

-- the form of the word at a place of its table
abbrev pub form_at : ℕ → Form
form_at i = if i == 0 then Form.Sense else (if i == 1 then Form.Mark
    else (if i == 2 then Form.Unmark else (if i == 3 then Form.PickUp
    else (if i == 4 then Form.Drop else (if i == 5 then Form.Turn else (if i == 6 then Form.Move else Form.Flip))))))

-- the sight of the word at a place of its table
abbrev pub sight_at : ℕ → Sight
sight_at i = if i == 0 then Here else (if i == 1 then Ahead else (if i == 2 then LeftAhead else RightAhead))

-- the side of the word at a place of its table
abbrev pub side_at : ℕ → Side
side_at i = if i == 0 then Left else Right

-- the condition of the word at a place of its table
abbrev pub condition_word_at : ℕ → ConditionWord
condition_word_at i = if i == 0 then ConditionWord.Friend else (if i == 1 then ConditionWord.Foe
    else (if i == 2 then ConditionWord.FriendWithFood else (if i == 3 then ConditionWord.FoeWithFood
    else (if i == 4 then ConditionWord.Food else (if i == 5 then ConditionWord.Rock
    else (if i == 6 then ConditionWord.Marker else (if i == 7 then ConditionWord.FoeMarker
    else (if i == 8 then ConditionWord.Home else ConditionWord.FoeHome))))))))
