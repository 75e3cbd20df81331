-- A call of the whole program, over files in memory (this project's own).
use Rattle.std.specs.Prelude.{◌≡◌, ◌≢◌, ◌⊎◌, Bool, ◌&&◌, ℕ, List, [], ◌∷◌, length, take, drop, Some, nat_le, if◌then◌else◌, unwrap_or}
use Rattle.std.specs.List.{AllByRecursion, sum}
use Rattle.std.specs.Str.{IsUtf8}
use Rattle.ant_base.specs.Lines.{lines_of}
use Rattle.ant_base.specs.MemShelf.{shelf_of}
use Rattle.ant_base.specs.Shelf.{ShelfState}
use Rattle.ant_base.specs.Sink.{SinkState}
use Rattle.ant_commands.specs.FaultLines.{Ending, ending_status}
use Rattle.ant_commands.specs.Outside.{outside_of}
use Rattle.ant_commands.specs.Run.{IsRun}
use Rattle.ant_commands.specs.Status.{status_number}
use Rattle.ant_commands.specs.declared.status.Status.TheVariants.{Write}
use Rattle.command_words.specs.Far.{words_without_far}
use Rattle.ants_c.specs.Ended.{ending_fault, ending_line}
use Rattle.ants_c.specs.Rooms.{counted, overlaid}
use Rattle.ants_c.specs.declared.fault.AntsFault.{AntsFault}

-- the files with these names; each takes `size` of the remaining bytes, and the sizes are in the order of the names
abbrev pub files_in : List (List ℕ) → List ℕ → List ℕ → List (List ℕ × List ℕ)
files_in (name ∷ names) (size ∷ sizes) bytes = (name, take size bytes) ∷ files_in names sizes (drop size bytes)
files_in names sizes bytes = []

-- names in UTF-8, with a size for each; and the sizes add up to the number of bytes
pub record AreFiles (names : List (List ℕ)) (sizes bytes : List ℕ) : Type 0 where
  pub named : AllByRecursion IsUtf8 names
  pub sized : length sizes ≡ length names
  pub whole : sum sizes ≡ length bytes

-- the lines of the words are in UTF-8, and the lines of the names are names of files
pub record CanBeRead (words names sizes bytes : List ℕ) : Type 0 where
  pub spoken : AllByRecursion IsUtf8 (lines_of words)
  pub files : AreFiles (lines_of names) sizes bytes

-- A shelf in memory with these files, from which nothing was fetched. It reports the files, and is sure of each.
abbrev pub shelf_with : List (List ℕ × List ℕ) → ShelfState
shelf_with files = shelf_of (record { files = files; failing = []; calls = 0; faults = 0; log = [] })

-- a sink that reports these bytes, has none waiting, and never failed
abbrev pub holding : List ℕ → SinkState
holding bytes = record { held = Some bytes; waiting = Some []; faults = 0 }

-- The program ran with these words over these files, with this ending. It wrote this text, and reported this line. The
-- line is the whole line of the ending.
pub record Runs (words : List (List ℕ)) (files : List (List ℕ × List ℕ)) (text line : List ℕ)
    (ending : Ending) : Type 0 where
  pub shelf : ShelfState
  pub run : IsRun (words_without_far words) (outside_of (shelf_with files) (holding []) (holding []))
      (outside_of shelf (holding text) (holding line)) (ending_status ending)
  pub is_ending : run.ending ≡ ending
  pub is_line : line ≡ ending_line ending

-- the caller's memory for a call: the rooms for the text and for the line, the counts of their bytes, and the fault
pub record Lent : Type 0 where
  pub out : List ℕ
  pub used : ℕ
  pub said : List ℕ
  pub told : ℕ
  pub fault : AntsFault

-- the caller's memory, built from these parts
abbrev pub lent : List ℕ → ℕ → List ℕ → ℕ → AntsFault → Lent
lent out used said told fault = record { out = out; used = used; said = said; told = told; fault = fault }

-- whether a text and a line are no longer than the rooms for them
abbrev pub have_room : List ℕ → List ℕ → Lent → Bool
have_room text line lent = nat_le (length text) (length lent.out) && nat_le (length line) (length lent.said)

-- the status of a call: that of the run if the text and the line have room, otherwise 4
abbrev pub call_status : List ℕ → List ℕ → Lent → Ending → ℕ
call_status text line lent ending = if have_room text line lent then status_number (ending_status ending) else 4

-- The fault after a call. If the text and the line have room and the ending has numbers, it is how the run ended, in
-- numbers. Otherwise it is unchanged.
abbrev pub call_fault : List (List ℕ) → List (List ℕ) → List ℕ → List ℕ → Lent → Ending → AntsFault
call_fault words names text line lent ending = if have_room text line lent then unwrap_or (ending_fault words names ending) lent.fault else lent.fault

-- The program ran in this way over files with these names. Its text and its line were written over the rooms, and their
-- bytes were counted. The status and the fault say how it ended. The program never ends with a failed output, whose
-- status is 4 too.
pub record IsCalled (words names : List (List ℕ)) (files : List (List ℕ × List ℕ)) (before after : Lent)
    (status : ℕ) : Type 0 where
  pub text : List ℕ
  pub line : List ℕ
  pub ending : Ending
  pub runs : Runs words files text line ending
  pub unfailing : ending_status ending ≢ Write
  pub written : after.out ≡ overlaid before.out text
  pub count : after.used ≡ counted text
  pub reported : after.said ≡ overlaid before.said line
  pub line_count : after.told ≡ counted line
  pub answered : status ≡ call_status text line before ending
  pub faulted : after.fault ≡ call_fault words names text line before ending

-- Nothing ran and nothing was written. Either what was given can't be read, or memory ran out.
pub record IsNotCalled (before after : Lent) (status : ℕ) : Type 0 where
  pub either : (status ≡ 1) ⊎ (status ≡ 6)
  pub unwritten : after ≡ before
