-- The numbers of faults: each kind has one, which never changes (this project's own).
use Rattle.std.specs.Prelude.{ℕ}
use Rattle.ant_asm.specs.declared.fault.AsmFault.{AsmFault}
use Rattle.ant_asm.specs.declared.fault.AsmFault.TheVariants as labelled
use Rattle.brain_read.specs.declared.fault.BrainFault.{BrainFault}
use Rattle.brain_read.specs.declared.fault.BrainFault.TheVariants as brain
use Rattle.break_view.specs.declared.fault.BreakFault.{BreakFault}
use Rattle.break_view.specs.declared.fault.BreakFault.TheVariants as breaks
use Rattle.match_save.specs.declared.fault.SaveFault.{SaveFault}
use Rattle.match_save.specs.declared.fault.SaveFault.TheVariants as save
use Rattle.world_read.specs.declared.fault.WorldFault.{WorldFault}
use Rattle.world_read.specs.declared.fault.WorldFault.TheVariants as world
use Rattle.ants_c.specs.declared.numbers.Numbers.{Numbers}
use Rattle.ants_c.specs.declared.refusal.CallFault.{CallFault}
use Rattle.ants_c.specs.declared.refusal.CallFault.TheVariants.{File, NoRoom}
use Rattle.ant_commands.specs.declared.stop.FileFault.TheVariants.{Breaks, Text}
use Rattle.text_fault.specs.declared.fault.TextFault.{TextFault}
use Rattle.text_fault.specs.declared.fault.TextFault.TheVariants.{TooLong, World, Brain, Labelled, Save, AlreadyAt}

-- a kind without further numbers
abbrev pub bare : ℕ → Numbers
bare kind = record { kind = kind; line = 0; column = 0; number = 0 }

-- a kind, in a line or a row
abbrev pub at_line : ℕ → ℕ → Numbers
at_line kind line = record { kind = kind; line = line; column = 0; number = 0 }

-- the numbers of a world's fault: its kind, its row and column, or the number of ants
abbrev pub world_numbers : WorldFault → Numbers
world_numbers world.BadWidth = bare 10
world_numbers world.BadHeight = bare 11
world_numbers (world.MissingRow row) = at_line 12 row
world_numbers (world.BadCell row column) = record { kind = 13; line = row; column = column; number = 0 }
world_numbers (world.ShortRow row) = at_line 14 row
world_numbers (world.LongRow row) = at_line 15 row
world_numbers world.ExtraRow = bare 16
world_numbers (world.OpenRim x y) = record { kind = 17; line = y; column = x; number = 0 }
world_numbers (world.TooManyAnts count) = record { kind = 18; line = 0; column = 0; number = count }
world_numbers world.OutOfMemory = bare 0

-- the numbers of a brain's fault: its kind and line, and the missing state
abbrev pub brain_numbers : BrainFault → Numbers
brain_numbers (brain.BadByte line) = at_line 20 line
brain_numbers (brain.UnknownWord line) = at_line 21 line
brain_numbers (brain.MissingToken line) = at_line 22 line
brain_numbers (brain.BadNumber line) = at_line 23 line
brain_numbers (brain.ExtraToken line) = at_line 24 line
brain_numbers (brain.TooMany line) = at_line 25 line
brain_numbers brain.Empty = bare 26
brain_numbers (brain.NoSuchState line state) = record { kind = 27; line = line; column = 0; number = state }
brain_numbers brain.OutOfMemory = bare 0

-- the numbers of a labelled program's fault: its kind and line
abbrev pub labelled_numbers : AsmFault → Numbers
labelled_numbers (labelled.BadByte line) = at_line 30 line
labelled_numbers (labelled.UnknownWord line) = at_line 31 line
labelled_numbers (labelled.MissingToken line) = at_line 32 line
labelled_numbers (labelled.BadNumber line) = at_line 33 line
labelled_numbers (labelled.ExtraToken line) = at_line 34 line
labelled_numbers (labelled.BadName line) = at_line 35 line
labelled_numbers (labelled.Misplaced line) = at_line 36 line
labelled_numbers (labelled.Twice line) = at_line 37 line
labelled_numbers (labelled.NoBlock line) = at_line 38 line
labelled_numbers (labelled.WrongCount line) = at_line 39 line
labelled_numbers (labelled.TooMany line) = at_line 40 line
labelled_numbers (labelled.EmptyBlock line) = at_line 41 line
labelled_numbers labelled.Empty = bare 42
labelled_numbers (labelled.NoLabel line) = at_line 43 line
labelled_numbers labelled.OutOfMemory = bare 0

-- the numbers of a save's fault: its kind and line
abbrev pub save_numbers : SaveFault → Numbers
save_numbers (save.BadLine line) = at_line 50 line
save_numbers save.BadState = bare 51
save_numbers save.OutOfMemory = bare 0

-- the numbers of the fault of a list of breaks: its kind and line
abbrev pub break_numbers : BreakFault → Numbers
break_numbers (breaks.UnknownWord line) = at_line 70 line
break_numbers (breaks.MissingToken line) = at_line 71 line
break_numbers (breaks.BadNumber line) = at_line 72 line
break_numbers (breaks.ExtraToken line) = at_line 73 line
break_numbers (breaks.TooMany line) = at_line 74 line
break_numbers breaks.OutOfMemory = bare 0

-- the numbers of the fault of any other text
abbrev pub text_numbers : TextFault → Numbers
text_numbers TooLong = bare 1
text_numbers (World why) = world_numbers why
text_numbers (Brain why) = brain_numbers why
text_numbers (Labelled why) = labelled_numbers why
text_numbers (Save why) = save_numbers why
text_numbers (AlreadyAt round) = record { kind = 52; line = 0; column = 0; number = round }

-- the numbers of what is wrong with a text, or of the element of a world that has no room
abbrev pub numbers_of : CallFault → Numbers
numbers_of (File (Text fault)) = text_numbers fault
numbers_of (File (Breaks fault)) = break_numbers fault
numbers_of (NoRoom element) = record { kind = 60; line = 0; column = 0; number = element }
