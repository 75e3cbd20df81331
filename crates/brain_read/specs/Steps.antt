-- One token after another: what is read from the tokens of a line, or why the first position at fault is refused. The
-- clauses of `Tokens` and `positions` use it; those of `read_brain` don't (this project's own).
use Rattle.std.specs.Prelude.{ℕ, ◌+◌, List, length, Ok, Err}
use Rattle.hex_geometry.specs.declared.direction.Side.{Side}
use Rattle.hex_geometry.specs.declared.neighbourhood.Sight.{Sight}
use Rattle.line_tokens.specs.Steps.{Step, ◌>>=◌, take_word, take_number}
use Rattle.brain_read.specs.declared.form.ConditionWord.{ConditionWord}
use Rattle.brain_read.specs.declared.instr.Cond.{Cond}
use Rattle.brain_read.specs.declared.instr.Cond.TheVariants.{Friend, Foe, FriendWithFood, FoeWithFood, Food, Rock, Marker, FoeMarker, Home, FoeHome}
use Rattle.brain_read.specs.Judgement.{positions_of_condition}
use Rattle.brain_read.specs.Forms.{sight_words, side_words, condition_words, most_bound}
use Rattle.brain_read.specs.Places.{sight_at, side_at, condition_word_at}

-- the word of a sight
unfoldable pub take_sight : List (List ℕ) → Step Sight
take_sight tokens = do
  word ← take_word sight_words tokens
  Ok (sight_at word.0, word.1)

-- the word of a side
unfoldable pub take_side : List (List ℕ) → Step Side
take_side tokens = do
  word ← take_word side_words tokens
  Ok (side_at word.0, word.1)

-- a state: any number of at most ten digits
unfoldable pub take_state : List (List ℕ) → Step ℕ
take_state = take_number 0 9999999999

-- a marker, from 0 to 5
unfoldable pub take_marker : List (List ℕ) → Step ℕ
take_marker = take_number 0 5

-- a bound, from 1 to the largest
unfoldable pub take_bound : List (List ℕ) → Step ℕ
take_bound = take_number 1 most_bound

-- a condition of one word, or for Marker the condition with the marker after it
abbrev pub condition_from : ConditionWord → List (List ℕ) → Step Cond
condition_from ConditionWord.Friend rest = Ok (Friend, rest)
condition_from ConditionWord.Foe rest = Ok (Foe, rest)
condition_from ConditionWord.FriendWithFood rest = Ok (FriendWithFood, rest)
condition_from ConditionWord.FoeWithFood rest = Ok (FoeWithFood, rest)
condition_from ConditionWord.Food rest = Ok (Food, rest)
condition_from ConditionWord.Rock rest = Ok (Rock, rest)
condition_from ConditionWord.Marker rest = do
  marker ← take_marker rest
  Ok (Marker marker.0, marker.1)
condition_from ConditionWord.FoeMarker rest = Ok (FoeMarker, rest)
condition_from ConditionWord.Home rest = Ok (Home, rest)
condition_from ConditionWord.FoeHome rest = Ok (FoeHome, rest)

-- the word of a condition, and what follows it
unfoldable pub take_condition : List (List ℕ) → Step Cond
take_condition tokens = do
  word ← take_word condition_words tokens
  condition_from (condition_word_at word.0) word.1

-- how many tokens a condition takes: its first, and those that its word adds
abbrev pub taken_with : Step ℕ → ℕ
taken_with (Ok word) = 1 + length (positions_of_condition (condition_word_at word.0))
taken_with (Err refusal) = 1

-- how many tokens the condition at the front takes: two if the first is the word Marker, and otherwise one
abbrev pub condition_tokens : List (List ℕ) → ℕ
condition_tokens tokens = taken_with (take_word condition_words tokens)
