-- One token after another: the positions of a break's line.
use Rattle.std.specs.Prelude.{ℕ, List, Ok}
use Rattle.cell_world.specs.declared.ant.Colour.{Colour}
use Rattle.line_tokens.specs.Steps.{Step, ◌>>=◌, take_word, take_number}
use Rattle.break_view.specs.Forms.{most_number}
use Rattle.break_view.specs.Inner.Places.{colour_words, colour_at}

-- the word of a colour
unfoldable pub take_colour : List (List ℕ) → Step Colour
take_colour tokens = do
  word ← take_word colour_words tokens
  Ok (colour_at word.0, word.1)

-- a number
unfoldable pub take_any : List (List ℕ) → Step ℕ
take_any = take_number 0 most_number
