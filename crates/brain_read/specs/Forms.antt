-- The words and the forms of the language, as the clauses of the public calls use them (the task's neurology).
use Rattle.std.specs.Prelude.{ℕ, ◌≤◌, ◌<◌, List, [], ◌∷◌, map, codes}
use Rattle.std.specs.List.{AllZip}
use Rattle.hex_geometry.specs.declared.direction.Side.{Side}
use Rattle.hex_geometry.specs.declared.direction.Side.TheVariants.{Left, Right}
use Rattle.hex_geometry.specs.declared.neighbourhood.Sight.{Sight}
use Rattle.hex_geometry.specs.declared.neighbourhood.Sight.TheVariants.{Here, Ahead, LeftAhead, RightAhead}
use Rattle.line_tokens.specs.Fields.{LineField, Spells}
use Rattle.line_tokens.specs.Fields.LineField.{Word, Number}
use Rattle.brain_read.specs.declared.instr.Cond.{Cond}
use Rattle.brain_read.specs.declared.instr.Cond.TheVariants.{Friend, Foe, FriendWithFood, FoeWithFood, Food, Rock, Marker, FoeMarker, Home, FoeHome}
use Rattle.brain_read.specs.declared.instr.Instr.{Instr}
use Rattle.brain_read.specs.declared.instr.Instr.TheVariants.{Sense, Mark, Unmark, PickUp, Drop, Turn, Move, Flip}
use Rattle.brain_read.specs.declared.form.Form.{Form}
use Rattle.brain_read.specs.declared.form.ConditionWord.{ConditionWord}
use Rattle.brain_read.specs.Soundness.{IsSoundCondition}

-- the word of a form
abbrev pub word_of_form : Form → List ℕ
word_of_form Form.Sense = codes "Sense"
word_of_form Form.Mark = codes "Mark"
word_of_form Form.Unmark = codes "Unmark"
word_of_form Form.PickUp = codes "PickUp"
word_of_form Form.Drop = codes "Drop"
word_of_form Form.Turn = codes "Turn"
word_of_form Form.Move = codes "Move"
word_of_form Form.Flip = codes "Flip"

-- the word of a sight
abbrev pub word_of_sight : Sight → List ℕ
word_of_sight Here = codes "Here"
word_of_sight Ahead = codes "Ahead"
word_of_sight LeftAhead = codes "LeftAhead"
word_of_sight RightAhead = codes "RightAhead"

-- the word of a side
abbrev pub word_of_side : Side → List ℕ
word_of_side Left = codes "Left"
word_of_side Right = codes "Right"

-- the word that begins a condition
abbrev pub word_of_condition : ConditionWord → List ℕ
word_of_condition ConditionWord.Friend = codes "Friend"
word_of_condition ConditionWord.Foe = codes "Foe"
word_of_condition ConditionWord.FriendWithFood = codes "FriendWithFood"
word_of_condition ConditionWord.FoeWithFood = codes "FoeWithFood"
word_of_condition ConditionWord.Food = codes "Food"
word_of_condition ConditionWord.Rock = codes "Rock"
word_of_condition ConditionWord.Marker = codes "Marker"
word_of_condition ConditionWord.FoeMarker = codes "FoeMarker"
word_of_condition ConditionWord.Home = codes "Home"
word_of_condition ConditionWord.FoeHome = codes "FoeHome"

-- the forms, in the order of their table
abbrev pub forms : List Form
forms = Form.Sense ∷ Form.Mark ∷ Form.Unmark ∷ Form.PickUp ∷ Form.Drop ∷ Form.Turn ∷ Form.Move ∷ Form.Flip ∷ []

-- the sights, in the order of their table
abbrev pub sights : List Sight
sights = Here ∷ Ahead ∷ LeftAhead ∷ RightAhead ∷ []

-- the sides, in the order of their table
abbrev pub sides : List Side
sides = Left ∷ Right ∷ []

-- the words that begin a condition, in the order of their table
abbrev pub conditions : List ConditionWord
conditions =
    ConditionWord.Friend ∷ ConditionWord.Foe ∷ ConditionWord.FriendWithFood ∷ ConditionWord.FoeWithFood
    ∷ ConditionWord.Food
    ∷ ConditionWord.Rock ∷ ConditionWord.Marker ∷ ConditionWord.FoeMarker ∷ ConditionWord.Home ∷ ConditionWord.FoeHome
    ∷ []

-- the table of the words of forms
unfoldable pub form_words : List (List ℕ)
form_words = map word_of_form forms

-- the table of the words of sights
unfoldable pub sight_words : List (List ℕ)
sight_words = map word_of_sight sights

-- the table of the words of sides
unfoldable pub side_words : List (List ℕ)
side_words = map word_of_side sides

-- the table of the words that begin a condition
unfoldable pub condition_words : List (List ℕ)
condition_words = map word_of_condition conditions

-- how a condition is spelled
abbrev pub fields_of_condition : Cond → List LineField
fields_of_condition Friend = Word (codes "Friend") ∷ []
fields_of_condition Foe = Word (codes "Foe") ∷ []
fields_of_condition FriendWithFood = Word (codes "FriendWithFood") ∷ []
fields_of_condition FoeWithFood = Word (codes "FoeWithFood") ∷ []
fields_of_condition Food = Word (codes "Food") ∷ []
fields_of_condition Rock = Word (codes "Rock") ∷ []
fields_of_condition (Marker i) = Word (codes "Marker") ∷ Number i ∷ []
fields_of_condition FoeMarker = Word (codes "FoeMarker") ∷ []
fields_of_condition Home = Word (codes "Home") ∷ []
fields_of_condition FoeHome = Word (codes "FoeHome") ∷ []

-- how an instruction is spelled: the table of forms
abbrev pub fields_of : Instr → List LineField
fields_of (Sense sight met unmet condition) =
    Word (codes "Sense") ∷ Word (word_of_sight sight) ∷ Number met ∷ Number unmet ∷ fields_of_condition condition
fields_of (Mark i next) = Word (codes "Mark") ∷ Number i ∷ Number next ∷ []
fields_of (Unmark i next) = Word (codes "Unmark") ∷ Number i ∷ Number next ∷ []
fields_of (PickUp met unmet) = Word (codes "PickUp") ∷ Number met ∷ Number unmet ∷ []
fields_of (Drop next) = Word (codes "Drop") ∷ Number next ∷ []
fields_of (Turn side next) = Word (codes "Turn") ∷ Word (word_of_side side) ∷ Number next ∷ []
fields_of (Move met unmet) = Word (codes "Move") ∷ Number met ∷ Number unmet ∷ []
fields_of (Flip bound met unmet) = Word (codes "Flip") ∷ Number bound ∷ Number met ∷ Number unmet ∷ []

-- the largest bound, the largest u32
abbrev pub most_bound : ℕ
most_bound = 4294967295

-- the bound of a Flip is at most the largest
abbrev pub HasBound : Instr → Type 0
HasBound (Flip bound met unmet) = bound ≤ most_bound
HasBound _ = Unit {0}

-- the marker of an instruction is from 0 to 5, and its bound from 1 to the largest; `IsBrainText` bounds its states
abbrev pub IsInRange : Instr → Type 0
IsInRange (Sense sight met unmet condition) = IsSoundCondition condition
IsInRange (Mark i next) = i < 6
IsInRange (Unmark i next) = i < 6
IsInRange (Flip bound met unmet) = (1 ≤ bound) × (bound ≤ 4294967295)
IsInRange _ = Unit {0}

-- the tokens of a line spell an instruction
pub record InstrLine (tokens : List (List ℕ)) (instruction : Instr) : Type 0 where
  pub spelled : AllZip Spells (fields_of instruction) tokens
  pub in_range : IsInRange instruction
