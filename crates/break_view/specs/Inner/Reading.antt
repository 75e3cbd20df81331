-- What is read from the tokens of a line, form by form.
use Rattle.std.specs.Prelude.{ℕ, List, Ok}
use Rattle.cell_world.specs.declared.ant.Colour.{Colour}
use Rattle.line_tokens.specs.Steps.{Read, ◌>>=◌, take_word, take_end}
use Rattle.break_view.specs.declared.breaks.Break.{Break}
use Rattle.break_view.specs.declared.breaks.Break.TheVariants.{Round, State, Stand, Food, Killed, Score}
use Rattle.break_view.specs.declared.words.BreakWord.{BreakWord}
use Rattle.break_view.specs.Inner.Places.{break_words, break_at}
use Rattle.break_view.specs.Inner.Steps.{take_colour, take_any}

-- what follows `Round` and `Killed`: a number
unfoldable pub read_number : (ℕ → Break) → List (List ℕ) → Read Break
read_number make tokens = do
  number ← take_any tokens
  end ← take_end number.1
  Ok (make number.0)

-- what follows `State` and `Score`: a colour and a number
unfoldable pub read_coloured : (Colour → ℕ → Break) → List (List ℕ) → Read Break
read_coloured make tokens = do
  colour ← take_colour tokens
  number ← take_any colour.1
  end ← take_end number.1
  Ok (make colour.0 number.0)

-- what follows `Stand`: a colour and a position
unfoldable pub read_stand : List (List ℕ) → Read Break
read_stand tokens = do
  colour ← take_colour tokens
  x ← take_any colour.1
  y ← take_any x.1
  end ← take_end y.1
  Ok (Stand colour.0 x.0 y.0)

-- what follows `Food`: a position and a number
unfoldable pub read_food : List (List ℕ) → Read Break
read_food tokens = do
  x ← take_any tokens
  y ← take_any x.1
  least ← take_any y.1
  end ← take_end least.1
  Ok (Food x.0 y.0 least.0)

-- what follows the word of a break
abbrev pub read_form : BreakWord → List (List ℕ) → Read Break
read_form BreakWord.Round tokens = read_number Round tokens
read_form BreakWord.State tokens = read_coloured State tokens
read_form BreakWord.Stand tokens = read_stand tokens
read_form BreakWord.Food tokens = read_food tokens
read_form BreakWord.Killed tokens = read_number Killed tokens
read_form BreakWord.Score tokens = read_coloured Score tokens

-- the break of a line, or why the line is refused
unfoldable pub read_line : List (List ℕ) → Read Break
read_line tokens = do
  word ← take_word break_words tokens
  read_form (break_at word.0) word.1
