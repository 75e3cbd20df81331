-- The lines of a labelled program: what they say, and how they are spelled (this project's own).
use Rattle.std.specs.Prelude.{◌≡◌, ℕ, ◌≤◌, true, List, [], ◌∷◌, ◌++◌, length, map, codes, Some}
use Rattle.ant_base.specs.Number.{decimal_value}
use Rattle.word_table.specs.Words.{IsSameWord}
use Rattle.brain_read.specs.declared.form.Form.{Form}
use Rattle.brain_read.specs.Forms.{IsInRange, fields_of_condition, word_of_form, word_of_side, word_of_sight}
use Rattle.line_tokens.specs.Fields.{LineField}
use Rattle.line_tokens.specs.Fields.LineField.{Word, Number}
use Rattle.ant_asm.specs.declared.action.Action.{Action}
use Rattle.ant_asm.specs.declared.action.Action.TheVariants.{Sense, Mark, Unmark, PickUp, Drop, Turn, Move, Flip}
use Rattle.ant_asm.specs.LabelGame.{instruction_by}
use Rattle.ant_asm.specs.Names.{Named, is_name}
use Rattle.ant_asm.specs.Names.Named.{NextWord, Name}

-- the first words of the lines that aren't instructions
pub data Keyword : Type 0 where
  BlockWord EndWord UseWord : Keyword

-- how a keyword is spelled
abbrev pub word_of_keyword : Keyword → List ℕ
word_of_keyword BlockWord = codes "block"
word_of_keyword EndWord = codes "end"
word_of_keyword UseWord = codes "use"

-- the keywords, in the order of their table
abbrev pub keywords : List Keyword
keywords = BlockWord ∷ EndWord ∷ UseWord ∷ []

-- the largest number of a block's parameters
abbrev pub most_parameters : ℕ
most_parameters = 8

-- what a line says: it names the next item, begins a block with these parameters, ends it, uses a block with these
-- labels, or is an instruction
pub data Line : Type 0 where
  Marks : List ℕ → Line
  Begins : (name : List ℕ) → (parameters : List (List ℕ)) → Line
  Ends : Line
  Uses : (name : List ℕ) → (handed : List Named) → Line
  Instructs : Action Named → Line

-- one token of a line: a word in any ASCII case, a number, a name, a name before `:`, or a label
pub data Field : Type 0 where
  Plain : LineField → Field
  NameField : List ℕ → Field
  ColonField : List ℕ → Field
  LabelField : Named → Field

-- how an instruction is spelled: the table of forms, with labels for states
abbrev pub fields_of_action : Action Named → List Field
fields_of_action (Sense sight met unmet condition) =
    Plain (Word (word_of_form Form.Sense)) ∷ Plain (Word (word_of_sight sight)) ∷ LabelField met ∷ LabelField unmet
    ∷ map Plain (fields_of_condition condition)
fields_of_action (Mark i on) = Plain (Word (word_of_form Form.Mark)) ∷ Plain (Number i) ∷ LabelField on ∷ []
fields_of_action (Unmark i on) = Plain (Word (word_of_form Form.Unmark)) ∷ Plain (Number i) ∷ LabelField on ∷ []
fields_of_action (PickUp met unmet) = Plain (Word (word_of_form Form.PickUp)) ∷ LabelField met ∷ LabelField unmet ∷ []
fields_of_action (Drop on) = Plain (Word (word_of_form Form.Drop)) ∷ LabelField on ∷ []
fields_of_action (Turn side on) =
    Plain (Word (word_of_form Form.Turn)) ∷ Plain (Word (word_of_side side)) ∷ LabelField on ∷ []
fields_of_action (Move met unmet) = Plain (Word (word_of_form Form.Move)) ∷ LabelField met ∷ LabelField unmet ∷ []
fields_of_action (Flip bound met unmet) =
    Plain (Word (word_of_form Form.Flip)) ∷ Plain (Number bound) ∷ LabelField met ∷ LabelField unmet ∷ []

-- how a line is spelled: the table of lines
abbrev pub fields_of_line : Line → List Field
fields_of_line (Marks name) = ColonField name ∷ []
fields_of_line (Begins name parameters) =
    Plain (Word (word_of_keyword BlockWord)) ∷ NameField name ∷ map NameField parameters
fields_of_line Ends = Plain (Word (word_of_keyword EndWord)) ∷ []
fields_of_line (Uses name handed) = Plain (Word (word_of_keyword UseWord)) ∷ NameField name ∷ map LabelField handed
fields_of_line (Instructs instruction) = fields_of_action instruction

-- a token is a name
abbrev pub IsName : List ℕ → Type 0
IsName token = is_name token ≡ true

-- a token spells a field
abbrev pub Spells : Field → List ℕ → Type 0
Spells (Plain (Word word)) token = IsSameWord word token
Spells (Plain (Number n)) token = decimal_value token ≡ Some n
Spells (NameField name) token = (token ≡ name) × IsName name
Spells (ColonField name) token = (token ≡ name ++ codes ":") × IsName name
Spells (LabelField NextWord) token = IsSameWord (codes "next") token
Spells (LabelField (Name name)) token = (token ≡ name) × IsName name

-- the tokens spell the fields, one by one
abbrev pub SpellsAll : List Field → List (List ℕ) → Type 0
SpellsAll [] [] = Unit {0}
SpellsAll [] (token ∷ tokens) = ⊥
SpellsAll (field ∷ fields) [] = ⊥
SpellsAll (field ∷ fields) (token ∷ tokens) = Spells field token × SpellsAll fields tokens

-- the numbers of a line are in their ranges, and there are no more parameters or labels than a line may have
abbrev pub IsLineInRange : Line → Type 0
IsLineInRange (Marks name) = Unit {0}
IsLineInRange (Begins name parameters) = length parameters ≤ most_parameters
IsLineInRange Ends = Unit {0}
IsLineInRange (Uses name handed) = length handed ≤ most_parameters
IsLineInRange (Instructs instruction) = IsInRange (instruction_by (λ label. 0) instruction)

-- the tokens of a line say this
pub record Says (tokens : List (List ℕ)) (line : Line) : Type 0 where
  pub spelled : SpellsAll (fields_of_line line) tokens
  pub in_range : IsLineInRange line
