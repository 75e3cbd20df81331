-- The canonical text of a brain, as the clauses of `write_brain` use it (this project's own).
use Rattle.std.specs.Prelude.{ℕ, List, [], ◌∷◌, codes, flat_map}
use Rattle.ant_base.specs.Layout.{◌+++◌}
use Rattle.brain_read.specs.declared.instr.Instr.{Instr}
use Rattle.line_tokens.specs.Fields.{LineField, field_text, line_text}
use Rattle.brain_read.specs.Forms.{fields_of}

-- the line of an instruction
unfoldable pub instruction_text : Instr → List ℕ
instruction_text instruction = line_text (fields_of instruction)

-- further tokens, each after a space
abbrev pub further_words : List LineField → List ℕ
further_words [] = []
further_words (field ∷ fields) = codes " " +++ field_text field +++ further_words fields

-- tokens with one space between them
abbrev pub words_text : List LineField → List ℕ
words_text [] = []
words_text (field ∷ fields) = field_text field +++ further_words fields

-- the words of an instruction: its line without the LF
unfoldable pub instruction_words : Instr → List ℕ
instruction_words instruction = words_text (fields_of instruction)

-- the canonical text of a brain: a line for each instruction
unfoldable pub brain_text : List Instr → List ℕ
brain_text list = flat_map instruction_text list
