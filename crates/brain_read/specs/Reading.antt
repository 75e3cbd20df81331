-- What is read from the tokens of a line, form by form. The clause `step` of `read_instruction` uses it; its other
-- clauses and those of `read_brain` don't (this project's own).
use Rattle.std.specs.Prelude.{ℕ, List, Ok}
use Rattle.brain_read.specs.declared.instr.Instr.{Instr}
use Rattle.brain_read.specs.declared.instr.Instr.TheVariants.{Sense, Mark, Unmark, PickUp, Drop, Turn, Move, Flip}
use Rattle.brain_read.specs.declared.form.Form.{Form}
use Rattle.brain_read.specs.Forms.{form_words}
use Rattle.brain_read.specs.Places.{form_at}
use Rattle.line_tokens.specs.Steps.{Read, ◌>>=◌, take_word, take_end}
use Rattle.brain_read.specs.Steps.{take_sight, take_side, take_state, take_marker, take_bound, take_condition}

-- what follows `Sense`
unfoldable pub read_sense : List (List ℕ) → Read Instr
read_sense tokens = do
  sight ← take_sight tokens
  met ← take_state sight.1
  unmet ← take_state met.1
  condition ← take_condition unmet.1
  end ← take_end condition.1
  Ok (Sense sight.0 met.0 unmet.0 condition.0)

-- what follows `Mark` and `Unmark`: a marker and a state
unfoldable pub read_marked : (ℕ → ℕ → Instr) → List (List ℕ) → Read Instr
read_marked make tokens = do
  marker ← take_marker tokens
  next ← take_state marker.1
  end ← take_end next.1
  Ok (make marker.0 next.0)

-- what follows `PickUp` and `Move`: two states
unfoldable pub read_branches : (ℕ → ℕ → Instr) → List (List ℕ) → Read Instr
read_branches make tokens = do
  met ← take_state tokens
  unmet ← take_state met.1
  end ← take_end unmet.1
  Ok (make met.0 unmet.0)

-- what follows `Drop`
unfoldable pub read_drop : List (List ℕ) → Read Instr
read_drop tokens = do
  next ← take_state tokens
  end ← take_end next.1
  Ok (Drop next.0)

-- what follows `Turn`
unfoldable pub read_turn : List (List ℕ) → Read Instr
read_turn tokens = do
  side ← take_side tokens
  next ← take_state side.1
  end ← take_end next.1
  Ok (Turn side.0 next.0)

-- what follows `Flip`
unfoldable pub read_flip : List (List ℕ) → Read Instr
read_flip tokens = do
  bound ← take_bound tokens
  met ← take_state bound.1
  unmet ← take_state met.1
  end ← take_end unmet.1
  Ok (Flip bound.0 met.0 unmet.0)

-- what follows the word of a form
abbrev pub read_form : Form → List (List ℕ) → Read Instr
read_form Form.Sense tokens = read_sense tokens
read_form Form.Mark tokens = read_marked Mark tokens
read_form Form.Unmark tokens = read_marked Unmark tokens
read_form Form.PickUp tokens = read_branches PickUp tokens
read_form Form.Drop tokens = read_drop tokens
read_form Form.Turn tokens = read_turn tokens
read_form Form.Move tokens = read_branches Move tokens
read_form Form.Flip tokens = read_flip tokens

-- the instruction of a line, or why the line is refused
unfoldable pub read_line : List (List ℕ) → Read Instr
read_line tokens = do
  word ← take_word form_words tokens
  read_form (form_at word.0) word.1
