-- The words and the forms of breaks, as the clauses of the public calls use them.
use Rattle.std.specs.Prelude.{ℕ, ◌≤◌, List, [], ◌∷◌, codes}
use Rattle.std.specs.List.{AllByRecursion}
use Rattle.cell_world.specs.declared.ant.Colour.{Colour}
use Rattle.cell_world.specs.declared.ant.Colour.TheVariants.{Red, Black}
use Rattle.line_tokens.specs.Fields.{LineField, SpellsAll}
use Rattle.line_tokens.specs.Fields.LineField.{Word, Number}
use Rattle.break_view.specs.declared.words.BreakWord.{BreakWord}
use Rattle.break_view.specs.declared.breaks.Break.{Break}
use Rattle.break_view.specs.declared.breaks.Break.TheVariants.{Round, State, Stand, Food, Killed, Score}

-- the word that begins a break
abbrev pub word_of_break : BreakWord → List ℕ
word_of_break BreakWord.Round = codes "Round"
word_of_break BreakWord.State = codes "State"
word_of_break BreakWord.Stand = codes "Stand"
word_of_break BreakWord.Food = codes "Food"
word_of_break BreakWord.Killed = codes "Killed"
word_of_break BreakWord.Score = codes "Score"

-- the word of a colour
abbrev pub word_of_colour : Colour → List ℕ
word_of_colour Red = codes "Red"
word_of_colour Black = codes "Black"

-- the words that begin a break, in the order of their table
abbrev pub break_kinds : List BreakWord
break_kinds =
    BreakWord.Round ∷ BreakWord.State ∷ BreakWord.Stand ∷ BreakWord.Food ∷ BreakWord.Killed ∷ BreakWord.Score ∷ []

-- the colours, in the order of their table
abbrev pub colours : List Colour
colours = Red ∷ Black ∷ []

-- how a break is spelled: the table of forms
abbrev pub fields_of : Break → List LineField
fields_of (Round round) = Word (word_of_break BreakWord.Round) ∷ Number round ∷ []
fields_of (State colour state) = Word (word_of_break BreakWord.State) ∷ Word (word_of_colour colour) ∷ Number state ∷ []
fields_of (Stand colour x y) = Word (word_of_break BreakWord.Stand) ∷ Word (word_of_colour colour) ∷ Number x ∷ Number y ∷ []
fields_of (Food x y least) = Word (word_of_break BreakWord.Food) ∷ Number x ∷ Number y ∷ Number least ∷ []
fields_of (Killed id) = Word (word_of_break BreakWord.Killed) ∷ Number id ∷ []
fields_of (Score colour least) = Word (word_of_break BreakWord.Score) ∷ Word (word_of_colour colour) ∷ Number least ∷ []

-- the largest number of a break, the largest u32
abbrev pub most_number : ℕ
most_number = 4294967295

-- a number is at most the largest
abbrev pub IsInRange : LineField → Type 0
IsInRange (Word word) = Unit {0}
IsInRange (Number n) = n ≤ most_number

-- the tokens of a line are those of a break: they spell its fields, and no number is above the largest
pub record BreakLine (tokens : List (List ℕ)) (item : Break) : Type 0 where
  pub spelled : SpellsAll (fields_of item) tokens
  pub in_range : AllByRecursion IsInRange (fields_of item)
