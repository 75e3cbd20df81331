-- What is read from the tokens of a line.
use Rattle.std.specs.Prelude.{ℕ, zero, suc, List, [], ◌∷◌, map, Option, Some, None, Result, Ok, Err, ◌==◌, if◌then◌else◌}
use Rattle.std.specs.Borrow.{Bor}
use Rattle.line_tokens.specs.declared.refusal.LineFault.{LineFault}
use Rattle.line_tokens.specs.declared.refusal.Refusal.{Refusal}
use Rattle.brain_read.specs.declared.form.Form.{Form}
use Rattle.line_tokens.specs.Steps as brain
use Rattle.brain_read.specs.Steps.{take_bound, take_condition, take_marker, take_side, take_sight}
use Rattle.line_tokens.specs.Steps.{take_end}
use Rattle.line_tokens.specs.Tokens.{has_bad_byte}
use Rattle.brain_read.specs.Forms.{form_words}
use Rattle.brain_read.specs.Places.{form_at}
use Rattle.word_table.specs.Words.{word_place}
use Rattle.ant_asm.specs.declared.action.Action.{Action}
use Rattle.ant_asm.specs.declared.action.Action.TheVariants.{Sense, Mark, Unmark, PickUp, Drop, Turn, Move, Flip}
use Rattle.ant_asm.specs.declared.fault.AsmFault as asm
use Rattle.ant_asm.specs.declared.fault.AsmFault.TheVariants as asm_fault
use Rattle.ant_asm.specs.declared.spelling.Source.{Source}
use Rattle.ant_asm.specs.declared.spelling.SpellingFault.{SpellingFault}
use Rattle.ant_asm.specs.declared.spelling.SpellingFault.TheVariants.{BadByte, UnknownWord, MissingToken, BadNumber, ExtraToken, BadName, OutOfMemory}
use Rattle.ant_asm.specs.Names.{Named, before_colon, label_of, name_if, name_of}
use Rattle.ant_asm.specs.Names.Named.{NextWord, Name}
use Rattle.ant_asm.specs.Lines.{Keyword, Line, keywords, most_parameters, word_of_keyword}
use Rattle.ant_asm.specs.Lines.Keyword.{BlockWord, EndWord, UseWord}
use Rattle.ant_asm.specs.Lines.Line.{Marks, Begins, Ends, Uses, Instructs}

-- a label as contracts see it
abbrev pub seen : Source → Named
seen Source.Next = NextWord
seen (Source.Named name) = Name name.now

-- what is read, or what is wrong
abbrev pub Read : Type 0 → Type 0
Read A = Result A SpellingFault

-- a label, and a name, that was read
abbrev pub label_read : Result Source SpellingFault → Read Named
label_read (Ok source) = Ok (seen source)
label_read (Err fault) = Err fault

abbrev pub name_read : Result (Bor (List ℕ)) SpellingFault → Read (List ℕ)
name_read (Ok name) = Ok name.now
name_read (Err fault) = Err fault

-- a name that may be missing
abbrev pub name_seen : Option (Bor (List ℕ)) → Option (List ℕ)
name_seen None = None
name_seen (Some name) = Some name.now

-- what is read, and the tokens that are left
abbrev pub Step : Type 0 → Type 0
Step A = Read (A × List (List ℕ))

infixl 10 ◌>>=◌
abbrev pub ◌>>=◌ : {A B : Type 0} → Read A → (A → Read B) → Read B
(Ok x) >>= f = f x
(Err fault) >>= f = Err fault

-- a call's result, with the tokens that are left after it
abbrev pub with_rest : {A : Type 0} → List (List ℕ) → Read A → Step A
with_rest rest (Ok x) = Ok (x, rest)
with_rest rest (Err fault) = Err fault

-- what is wrong with a position whose token has no bad byte
abbrev pub fault_spelled : LineFault → SpellingFault
fault_spelled LineFault.UnknownWord = UnknownWord
fault_spelled LineFault.MissingToken = MissingToken
fault_spelled LineFault.BadNumber = BadNumber
fault_spelled LineFault.ExtraToken = ExtraToken

-- what is wrong with a position that a brain's text refuses
abbrev pub spelling_of : Refusal → SpellingFault
spelling_of refusal = if refusal.bad_byte then BadByte else fault_spelled refusal.fault

-- the result of reading a brain's text, as a result of this language
abbrev pub lifted : {A : Type 0} → brain.Read A → Read A
lifted (Ok x) = Ok x
lifted (Err refusal) = Err (spelling_of refusal)

-- the fault of a line with this number
abbrev pub fault_at : ℕ → SpellingFault → asm.AsmFault
fault_at line BadByte = asm_fault.BadByte line
fault_at line UnknownWord = asm_fault.UnknownWord line
fault_at line MissingToken = asm_fault.MissingToken line
fault_at line BadNumber = asm_fault.BadNumber line
fault_at line ExtraToken = asm_fault.ExtraToken line
fault_at line BadName = asm_fault.BadName line
fault_at line OutOfMemory = asm_fault.OutOfMemory

-- the meaning of a token, or what is wrong with it
abbrev pub or_fault : {A : Type 0} → Option A → SpellingFault → Read A
or_fault (Some x) fault = Ok x
or_fault None fault = Err fault

-- the result for a token, unless the token has a bad byte
abbrev pub good_token : {A : Type 0} → List ℕ → Read A → Read A
good_token token read = if has_bad_byte token then Err BadByte else read

-- the label of a token
unfoldable pub read_label : List ℕ → Read Named
read_label token = good_token token (or_fault (label_of token) BadName)

-- the name of a token
unfoldable pub read_name : List ℕ → Read (List ℕ)
read_name token = good_token token (or_fault (name_of token) BadName)

-- the meaning of the next token, and the tokens after it
abbrev pub take_token : {A : Type 0} → (List ℕ → Read A) → List (List ℕ) → Step A
take_token read [] = Err MissingToken
take_token read (token ∷ rest) = with_rest rest (read token)

-- the same with one more element in front
abbrev pub put_before : {A : Type 0} → A → Step (List A) → Step (List A)
put_before x (Ok others) = Ok (x ∷ others.0, others.1)
put_before x (Err fault) = Err fault

-- the meanings of the next tokens, at most this many
abbrev pub take_all : {A : Type 0} → (List ℕ → Read A) → ℕ → List (List ℕ) → Step (List A)
take_all read zero tokens = Ok ([], tokens)
take_all read (suc n) [] = Ok ([], [])
take_all read (suc n) (token ∷ rest) = read token >>= (λ x. put_before x (take_all read n rest))

-- the meanings of all tokens that are left in the line, at most this many
abbrev pub all_read : {A : Type 0} → (List ℕ → Read A) → ℕ → List (List ℕ) → Read (List A)
all_read read n tokens = take_all read n tokens >>= (λ others. lifted (take_end others.1) >>= (λ end. Ok others.0))

-- the line, if no token is left
abbrev pub ending : Line → List (List ℕ) → Read Line
ending line tokens = lifted (take_end tokens) >>= (λ end. Ok line)

-- what follows `Sense`
unfoldable pub read_sense : List (List ℕ) → Read Line
read_sense tokens = do
  sight ← lifted (take_sight tokens)
  met ← take_token read_label sight.1
  unmet ← take_token read_label met.1
  condition ← lifted (take_condition unmet.1)
  ending (Instructs (Sense sight.0 met.0 unmet.0 condition.0)) condition.1

-- what follows `Mark` and `Unmark`: a marker and a label
unfoldable pub read_marked : (ℕ → Named → Action Named) → List (List ℕ) → Read Line
read_marked make tokens = do
  marker ← lifted (take_marker tokens)
  on ← take_token read_label marker.1
  ending (Instructs (make marker.0 on.0)) on.1

-- what follows `PickUp` and `Move`: two labels
unfoldable pub read_branches : (Named → Named → Action Named) → List (List ℕ) → Read Line
read_branches make tokens = do
  met ← take_token read_label tokens
  unmet ← take_token read_label met.1
  ending (Instructs (make met.0 unmet.0)) unmet.1

-- what follows `Drop`
unfoldable pub read_drop : List (List ℕ) → Read Line
read_drop tokens = do
  on ← take_token read_label tokens
  ending (Instructs (Drop on.0)) on.1

-- what follows `Turn`
unfoldable pub read_turn : List (List ℕ) → Read Line
read_turn tokens = do
  side ← lifted (take_side tokens)
  on ← take_token read_label side.1
  ending (Instructs (Turn side.0 on.0)) on.1

-- what follows `Flip`
unfoldable pub read_flip : List (List ℕ) → Read Line
read_flip tokens = do
  bound ← lifted (take_bound tokens)
  met ← take_token read_label bound.1
  unmet ← take_token read_label met.1
  ending (Instructs (Flip bound.0 met.0 unmet.0)) unmet.1

-- what follows the word of a form
abbrev pub read_form : Form → List (List ℕ) → Read Line
read_form Form.Sense tokens = read_sense tokens
read_form Form.Mark tokens = read_marked Mark tokens
read_form Form.Unmark tokens = read_marked Unmark tokens
read_form Form.PickUp tokens = read_branches PickUp tokens
read_form Form.Drop tokens = read_drop tokens
read_form Form.Turn tokens = read_turn tokens
read_form Form.Move tokens = read_branches Move tokens
read_form Form.Flip tokens = read_flip tokens

-- a name, and names or labels after it
unfoldable pub read_named : {A : Type 0} → (List ℕ → Read A) → (List ℕ → List A → Line) → List (List ℕ) → Read Line
read_named read make tokens = do
  name ← take_token read_name tokens
  others ← all_read read most_parameters name.1
  Ok (make name.0 others)

-- what follows a keyword
abbrev pub read_keyword : Keyword → List (List ℕ) → Read Line
read_keyword BlockWord tokens = read_named read_name Begins tokens
read_keyword EndWord tokens = ending Ends tokens
read_keyword UseWord tokens = read_named read_label Uses tokens

-- a line whose first token is neither the first word of a form nor a keyword
abbrev pub read_mark : List ℕ → List (List ℕ) → Read Line
read_mark token [] = or_fault (name_if (before_colon token)) UnknownWord >>= (λ name. Ok (Marks name))
read_mark token (other ∷ rest) = Err UnknownWord

-- the keywords' words
unfoldable pub keyword_words : List (List ℕ)
keyword_words = map word_of_keyword keywords

-- the keyword at a place of their table
abbrev pub keyword_at : ℕ → Keyword
keyword_at i = if i == 0 then BlockWord else (if i == 1 then EndWord else UseWord)

-- a line, given the places of its first token in the table of forms and in that of keywords
abbrev pub read_by : Option ℕ → Option ℕ → List ℕ → List (List ℕ) → Read Line
read_by (Some form) keyword token rest = read_form (form_at form) rest
read_by None (Some keyword) token rest = read_keyword (keyword_at keyword) rest
read_by None None token rest = read_mark token rest

-- a line
unfoldable pub read_line : List (List ℕ) → Read Line
read_line [] = Err MissingToken
read_line (token ∷ rest) =
    good_token token (read_by (word_place form_words token) (word_place keyword_words token) token rest)
