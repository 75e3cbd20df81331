-- The tables of words, and the meaning of each place in them.
use Rattle.std.specs.Prelude.{ℕ, if◌then◌else◌, ◌==◌, List, map}
use Rattle.cell_world.specs.declared.ant.Colour.{Colour}
use Rattle.cell_world.specs.declared.ant.Colour.TheVariants.{Red, Black}
use Rattle.break_view.specs.declared.words.BreakWord.{BreakWord}
use Rattle.break_view.specs.Forms.{word_of_break, word_of_colour, break_kinds, colours}

-- the table of the words that begin a break
unfoldable pub break_words : List (List ℕ)
break_words = map word_of_break break_kinds

-- the table of the words of colours
unfoldable pub colour_words : List (List ℕ)
colour_words = map word_of_colour colours

-- what the word at a place of its table begins
abbrev pub break_at : ℕ → BreakWord
break_at i = if i == 0 then BreakWord.Round else (if i == 1 then BreakWord.State
    else (if i == 2 then BreakWord.Stand else (if i == 3 then BreakWord.Food
    else (if i == 4 then BreakWord.Killed else BreakWord.Score))))

-- the colour of the word at a place of its table
abbrev pub colour_at : ℕ → Colour
colour_at i = if i == 0 then Red else Black

-- the place of a colour's word in its table
abbrev pub place_of_colour : Colour → ℕ
place_of_colour Red = 0
place_of_colour Black = 1
