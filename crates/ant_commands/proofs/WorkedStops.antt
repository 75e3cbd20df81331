-- Lines, statuses and numbers of endings. Some of these endings occur in no test.
use Rattle.std.proofs.Common.{◌≡◌, [], ◌∷◌, codes, map, refl}
use Rattle.std.specs.Fmt.{digits}
use Rattle.brain_read.specs.declared.fault.BrainFault.TheVariants as brain
use Rattle.text_fault.specs.declared.fault.TextFault.TheVariants as text
use Rattle.world_read.specs.declared.fault.WorldFault.TheVariants as world
use Rattle.ant_commands.specs.declared.status.Status.TheVariants.{Done, Words, Read, Write, Input, Memory}
use Rattle.ant_commands.specs.declared.stop.FileFault.TheVariants as file
use Rattle.ant_commands.specs.Status.{status_number}
use Rattle.ant_commands.specs.FaultLines.{ending_status, fault_line, word_line}
use Rattle.ant_commands.specs.FaultLines.Ending.{Done as Finished, RefusedWord, Stopped}
use Rattle.ant_commands.specs.FaultLines.Reason.{AtFile, AtInput, AtMemory, AtOutput, AtRoom}

-- the numbers with which the program exits
pub numbers : map status_number (Done ∷ Words ∷ Read ∷ Write ∷ Input ∷ Memory ∷ []) ≡ 0 ∷ 2 ∷ 3 ∷ 4 ∷ 5 ∷ 6 ∷ []
numbers = refl

-- the status of each ending
pub statuses : map ending_status (Finished ∷ RefusedWord 3 ∷ Stopped (AtFile (codes "w")) ∷ Stopped AtOutput ∷ Stopped (AtInput (codes "w") (file.Text text.TooLong)) ∷ Stopped (AtRoom 1) ∷ Stopped AtMemory ∷ [])
    ≡ Done ∷ Words ∷ Read ∷ Write ∷ Input ∷ Input ∷ Memory ∷ []
statuses = refl

-- a refused word
pub refused_line : word_line 3 ≡ codes "ants: word 3 refused\n"
unfolding digits word_line
refused_line = refl

-- out of memory
pub memory_line : fault_line AtMemory ≡ codes "ants: out of memory\n"
unfolding fault_line
memory_line = refl

-- the column of a position precedes its row
pub open_rim_line : fault_line (AtInput (codes "w") (file.Text (text.World (world.OpenRim 2 0)))) ≡ codes "ants: w: rim open at (2, 0)\n"
unfolding digits fault_line
open_rim_line = refl

-- the row of a bad cell precedes its column
pub bad_cell_line : fault_line (AtInput (codes "w") (file.Text (text.World (world.BadCell 1 2)))) ≡ codes "ants: w: row 1: bad cell at column 2\n"
unfolding digits fault_line
bad_cell_line = refl

-- the line of a brain precedes the state
pub no_state_line : fault_line (AtInput (codes "b") (file.Text (text.Brain (brain.NoSuchState 2 5)))) ≡ codes "ants: b: line 2: no such state 5\n"
unfolding digits fault_line
no_state_line = refl
