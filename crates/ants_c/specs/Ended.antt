-- How a run of the program ended, in a line and in numbers (this project's own).
use Rattle.std.specs.Prelude.{ℕ, ◌+◌, min, List, [], ◌∷◌, drop, Option, Some, None, if◌then◌else◌}
use Rattle.std.specs.Str.{bytes_eq}
use Rattle.ant_commands.specs.FaultLines.{Ending, fault_line, word_line}
use Rattle.ant_commands.specs.FaultLines.Ending.{Done, RefusedWord, Stopped}
use Rattle.ant_commands.specs.FaultLines.Reason.{AtFile, AtOutput, AtInput, AtRoom, AtMemory}
use Rattle.ants_c.specs.declared.fault.AntsFault.{AntsFault}
use Rattle.ants_c.specs.declared.refusal.CallFault.TheVariants.{File, NoRoom}
use Rattle.ants_c.specs.Told.{told_fault}

-- the line that says how a run ended; none if it is done
abbrev pub ending_line : Ending → List ℕ
ending_line Done = []
ending_line (RefusedWord word) = word_line word
ending_line (Stopped reason) = fault_line reason

-- Some texts are numbered from `first` on. This is the number of the first one that equals this text, or 0 if none
-- does.
abbrev pub number_of : ℕ → List ℕ → List (List ℕ) → ℕ
number_of first text [] = 0
number_of first text (other ∷ others) = if bytes_eq other text then first else number_of (first + 1) text others

-- the number of the first given file with this name, counted from 1; the largest number of 32 bits also means any
-- larger number
abbrev pub file_named : List ℕ → List (List ℕ) → ℕ
file_named name names = min (number_of 1 name names) 4294967295

-- The number of the first word that names this file, counted from 1. The first word of all names no file: it is the
-- command's own.
abbrev pub word_naming : List ℕ → List (List ℕ) → ℕ
word_naming name words = number_of 2 name (drop 1 words)

-- a word with this number, in numbers
abbrev pub at_word : ℕ → AntsFault
at_word number = record { text = 0; kind = 0; line = 0; column = 0; number = number; words = 0 }

-- How a run with these words over files with these names ended, in numbers: the refused word, the word that names a
-- missing file, the file that is refused and its fault, or the element that has no room. Any other ending has no
-- numbers.
abbrev pub ending_fault : List (List ℕ) → List (List ℕ) → Ending → Option AntsFault
ending_fault words names Done = None
ending_fault words names (RefusedWord word) = Some (at_word word)
ending_fault words names (Stopped (AtFile name)) = Some (at_word (word_naming name words))
ending_fault words names (Stopped AtOutput) = None
ending_fault words names (Stopped (AtInput name fault)) =
    Some (told_fault (record { text = file_named name names; fault = File fault }))
ending_fault words names (Stopped (AtRoom element)) = Some (told_fault (record { text = 0; fault = NoRoom element }))
ending_fault words names (Stopped AtMemory) = None
